use Rattle.std.proofs.Common.{rules}
use Rattle.std.proofs.lemmas.Fn.{filter_same}
use Rattle.iris_tree.specs.Changes.{has_other_tag}
use Rattle.iris_tree.proofs.change.drop_tag.Goals as goal

pub returns : goal.returns
returns c = filter_same _ (has_other_tag c.args.tag.now) _ (λ x b f called. search rules) _ _ c.retain.ensures.filtered
