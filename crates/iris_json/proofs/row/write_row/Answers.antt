use Rattle.std.proofs.Common.{◌≡◌, ◌∙◌, refl, ap, append_assoc, take_all}
use Rattle.json.specs.Print.{print}
use Rattle.iris_tree.specs.LocalText.{value_tokens}
use Rattle.iris_tree.proofs.ValueTokens.{printed}
use Rattle.iris_json.specs.Rows.{fields_of, row_data}
use Rattle.iris_json.proofs.Written.{member_tokens, fields_more, row_written}
use Rattle.iris_json.proofs.row.write_row.Goals as goal

pub loop-key-preserved : goal.loop-key-preserved
loop-key-preserved c =
    let more = fields_more _ c.loop-key.key-index c.loop-key-item.result c.loop-key-test.true c.loop-key-item.is in
    rw (c.in_ok-put_field.ensures, c.in_ok-key.ensures, c.loop-key.invariant, more) (simp append_assoc)

pub returns : goal.returns
returns c =
    let all = ap (λ fs. member_tokens (fields_of fs)) (take_all c.loop-key.key-index c.args.row.now c.loop-key-test.false) in
    let whole : c.end_object.new.self ≡ value_tokens (row_data (fields_of c.args.row.now)) =
    c.in_ok-end_object.ensures ∙ rw (c.loop-key.invariant, all, row_written (fields_of c.args.row.now)) refl in
    c.into_bytes.ensures ∙ ap print whole ∙ printed (row_data (fields_of c.args.row.now))
