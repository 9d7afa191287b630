use Rattle.iris_cli.proofs.Words.{one_word}
use Rattle.iris_cli.proofs.player.asks_to_play.Goals as goal

pub returns-in-len1 : goal.returns-in-len1
returns-in-len1 c = one_word _ _ _ _ _ c.in-len1.len_at_least c.in-len1.len_below c.word-item.is c.as_str.ensures c.eq.ensures
