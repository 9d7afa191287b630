use Rattle.std.proofs.Common.{◌∙◌, ◌++◌, ◌∷◌, [], sym, ap, List, ℕ, filter}
use Rattle.iris_tree.specs.Document.{Place}
use Rattle.iris_xpath.specs.Places.{is_above}
use Rattle.iris_need.specs.Program.{element_ends}
use Rattle.iris_need.specs.Walk.{path_of, paths_of}
use Rattle.iris_need.proofs.ElementPaths.{end_kept, end_left, ends_done}
use Rattle.iris_need.proofs.elements.add_attributes_below.Goals as goal

pub loop-path-preserved-then-not-is_above : goal.loop-path-preserved-then-not-is_above
loop-path-preserved-then-not-is_above c =
    end_left c.args.attribute.now c.args.local.now (is_above (path_of c.args.above.now)) c.deref-path-items.result.now c.loop-path.path-index c.path-item.result c.loop-path.ends.items _ c.loop-path-test.true c.path-item.is
    (ap (λ (p : List ℕ). is_above (path_of c.args.above.now) (path_of p)) (sym c.as_slice.ensures) ∙ sym c.is_above.ensures ∙ c.if-not-is_above.true) c.loop-path.invariant

pub loop-path-preserved : goal.loop-path-preserved
loop-path-preserved c =
    end_kept c.args.attribute.now c.args.local.now (is_above (path_of c.args.above.now)) c.deref-path-items.result.now c.loop-path.path-index c.path-item.result c.loop-path.ends.items c.add_attribute.new.ends.items _ c.loop-path-test.true c.path-item.is
    (ap (λ (p : List ℕ). is_above (path_of c.args.above.now) (path_of p)) (sym c.as_slice.ensures) ∙ sym c.is_above.ensures ∙ c.if-not-is_above.false)
    (c.in_ok-add_attribute.ensures ∙ ap (λ (p : List ℕ). c.loop-path.ends.items ++ element_ends c.args.attribute.now c.args.local.now (path_of p ∷ [])) c.as_slice-in-loop-path.ensures) c.loop-path.invariant

pub returns : goal.returns
returns c =
    ends_done c.args.attribute.now c.args.local.now (is_above (path_of c.args.above.now)) c.deref-path-items.result.now c.loop-path.path-index c.loop-path.ends.items _ c.loop-path-test.false c.loop-path.invariant
    ∙ ap (λ (ps : List Place). c.args.ends.now.items ++ element_ends c.args.attribute.now c.args.local.now (filter (is_above (path_of c.args.above.now)) ps)) (ap (λ (ps : List (List ℕ)). paths_of ps) c.deref-path-items.ensures.value ∙ c.in_ok-paths.ensures)
