use Rattle.std.proofs.Common.{◌≡◌, ◌++◌, rules, append_assoc, take, take_all}
use Rattle.iris_tree.specs.LocalText.{value_tokens}
use Rattle.iris_json.specs.Rows.{cite_data}
use Rattle.iris_json.proofs.Written.{tokens_more, array_written}
use Rattle.iris_json.proofs.row.put_cites.Goals as goal

pub loop-cite-preserved : goal.loop-cite-preserved
loop-cite-preserved c =
    let wrote : c.put_cite.new.out ≡ c.loop-cite.out ++ value_tokens (cite_data c.cite-item.result) = search rules in
    let more = tokens_more cite_data _ c.loop-cite.cite-index c.cite-item.result c.loop-cite-test.true c.cite-item.is in
    rw (wrote, c.loop-cite.invariant, more) (simp append_assoc)

pub returns : goal.returns
returns c =
    let all : take c.loop-cite.cite-index c.args.cites.now ≡ c.args.cites.now = take_all _ _ c.loop-cite-test.false in
    rw (
      c.in_ok-end_array.ensures,
      c.loop-cite.invariant,
      all,
      c.in_ok-begin_array.ensures,
      array_written cite_data c.args.cites.now,
    )
    (simp append_assoc)
