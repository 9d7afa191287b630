use Rattle.std.proofs.Common.{◌≡◌, ◌∙◌, ◌++◌, ◌∷◌, [], ap, List, ℕ, map}
use Rattle.iris_tree.specs.declared.plain.Plain.{Plain}
use Rattle.iris_tree.specs.declared.plain.Plain.TheViews.{out-Plain}
use Rattle.iris_tree.specs.Document.{Place, numbered, plain_places}
use Rattle.iris_need.specs.Walk.{path_of, paths_of}
use Rattle.iris_need.proofs.ElementPaths.{sibling_done}
use Rattle.iris_need.proofs.elements.+add_paths.Goals as goal

pub loop-at-preserved : goal.loop-at-preserved
loop-at-preserved t c =
    let i = c.loop-at.at in
    let p = c.index-siblings-at.result in
    let above = c.args.above.now in
    let own : c.push.new.self.items ≡ c.loop-at.paths.items ++ (above ++ i ∷ []) ∷ [] =
    c.in_ok-push.ensures.items ∙ ap (λ (n : List ℕ). c.loop-at.paths.items ++ n ∷ []) (c.from_vec.ensures ∙ c.in_ok-extended.ensures) in
    let path : c.as_slice-in-loop-at.result.now ≡ above ++ i ∷ [] = c.as_slice-in-loop-at.ensures.value ∙ c.in_ok-path.ensures in
    let below : paths_of c.add_paths.new.paths.items ≡ paths_of c.push.new.self.items ++ map (λ (q : Place). path_of (above ++ i ∷ []) ++ q) (numbered 0 (map plain_places (out-Plain p).kids)) =
    c.in_ok-add_paths.ensures ∙ ap (λ (n : List ℕ). paths_of c.push.new.self.items ++ map (λ (q : Place). path_of n ++ q) (numbered 0 (map plain_places c.as_slice.result.now))) path
    ∙ ap (λ (ps : List Plain). paths_of c.push.new.self.items ++ map (λ (q : Place). path_of (above ++ i ∷ []) ++ q) (numbered 0 (map plain_places ps))) c.as_slice.ensures in
    sibling_done above c.args.siblings.now i p c.loop-at.paths.items c.push.new.self.items c.add_paths.new.paths.items _ c.loop-at-test.true c.index-siblings-at.is own below c.loop-at.invariant
