use Rattle.std.proofs.Common.{◌∙◌, ap, length, List, ℕ}
use Rattle.iris_tree.specs.declared.counter.Counter.{Counter}
use Rattle.iris_tree.specs.LocalText.{local_data, value_tokens}
use Rattle.iris_tree.specs.TextLen.{saturated}
use Rattle.iris_tree.proofs.Counted.{counted_text}
use Rattle.iris_tree.proofs.ValueTokens.{printed}
use Rattle.iris_tree.proofs.local.Local.text_len.Goals as goal

pub returns : goal.returns
returns c =
    let whole = local_data c.args.self.now in
    ap (λ (n : Counter). n.len) c.count.ensures ∙ counted_text (value_tokens whole) ∙ ap (λ (text : List ℕ). saturated (length text)) (printed whole)
