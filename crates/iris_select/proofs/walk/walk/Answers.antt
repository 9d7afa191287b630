use Rattle.std.proofs.Common.{◌≡◌, ◌||◌, ◌∷◌, filter, ◌++◌, ◌≤◌, List, Bool, [], map, drop, length, false, true, append-nil, refl, sym, ap, ◌∙◌, subst, Bor, arith}
use Rattle.iris_tree.specs.Document.{whole}
use Rattle.iris_xpath.specs.declared.expression.Expression.{Expression}
use Rattle.iris_xpath.specs.declared.expression.Step.{Step}
use Rattle.iris_select.specs.declared.spot.Edge.{Edge}
use Rattle.iris_select.specs.Evaluating.{document_of, place_in}
use Rattle.iris_select.specs.Parts.{place_at}
use Rattle.iris_select.specs.Walking.{main_steps, further}
use Rattle.iris_select.proofs.Adding.{IsFound, walk_finds, adds_here, adds_below, same_document, same_place, gone, some_steps, below_there, looks_here}
use Rattle.iris_tree.specs.Universe.{Node, label_of}
use Rattle.iris_tree.specs.Document.{names_of}
use Rattle.iris_xpath.specs.Looks.{is_full_at, query_looks}
use Rattle.iris_xpath.specs.Syntax.{MainStep}
use Rattle.iris_select.specs.Looking.{path_looks_at, looks_found_below}
use Rattle.iris_select.specs.Marks.{marked, paths_of}
use Rattle.iris_select.proofs.Looked.{looked_then}
use Rattle.iris_select.proofs.MarkingLooks.{names_of_looks}
use Rattle.iris_select.proofs.PathLooks.{looks_all}
use Rattle.iris_select.proofs.walk.walk.Goals as goal

found : (c : goal.After-drop-walker-3) → IsFound c.args.tree.now (main_steps c.args.query.now) c.descend.new.self.selected.items
found c =
    let document = c.args.tree.now in
    let steps = main_steps c.steps-steps.result.now in
    let same = c.steps-steps.ensures.value in
    let taken = c.take.new.self.evaluator in
    let past : length c.steps-steps.result.now ≤ c.loop.index = omega arith in
    let falses : c.deref.result.now ≡ map (λ s. false) steps =
    c.deref.ensures.value ∙ sym (append-nil c.loop.none.items) ∙ ap (λ (xs : List (Step Expression)). c.loop.none.items ++ map (λ s. false) (main_steps xs)) (sym (gone c.steps-steps.result.now c.loop.index past)) ∙ c.loop.invariant in
    let back = c.in_ok-pending.ensures.back in
    let place = ap place_at c.new.ensures.items in
    let more : c.deref-2.result.now ≡ further document [] true steps (map (λ s. false) steps) =
    c.deref-2.ensures.value ∙ c.in_ok-pending.ensures.further ∙ ap (λ p. further document p true steps c.deref.result.now) place ∙ ap (λ bs. further document [] true steps bs) falses in
    subst (λ (xs : List (Step Expression)). IsFound document (main_steps xs) c.descend.new.self.selected.items) same
    (walk_finds document steps c.new-3.result.items c.take.new.self.selected.items c.descend.new.self.selected.items c.children-ordered.ensures.ordered
    (some_steps c.steps-steps.result.now (λ e. c.steps-steps.ensures.some (sym same ∙ e))) c.new-3.ensures.items
    (adds_here _ document steps true _ [] _ _ c.deref.result.now (map (λ s. false) steps) refl place falses c.in_ok-pending.ensures.found)
    (adds_below (document_of taken) document (main_steps c.take.new.self.steps.now) steps (place_in taken) [] _ _ c.deref-2.result.now (further document [] true steps (map (λ s. false) steps)) whole
    (same_document _ taken back) (ap (λ (s : Bor (List (Step Expression))). main_steps s.now) c.in_ok-pending.ensures.steps) (same_place _ taken back ∙ place) more c.in_ok-descend.ensures.found))

pub returns-clause-places : goal.returns-clause-places
returns-clause-places c = (found c).places

pub returns-clause-items : goal.returns-clause-items
returns-clause-items c = (found c).items

pub returns-clause-full : goal.returns-clause-full
returns-clause-full c =
    let document = c.args.tree.now in
    let query = c.args.query.now in
    let same = c.steps-steps.ensures.value in
    let steps = main_steps query in
    let falses = map (λ s. false) steps in
    let taken = c.take.new.self.evaluator in
    let done = c.descend.new.self.evaluator in
    let past : length c.steps-steps.result.now ≤ c.loop.index = omega arith in
    let is_steps = ap main_steps same in
    let are_falses : c.deref.result.now ≡ falses =
    c.deref.ensures.value ∙ sym (append-nil c.loop.none.items) ∙ ap (λ (xs : List (Step Expression)). c.loop.none.items ++ map (λ s. false) (main_steps xs)) (sym (gone c.steps-steps.result.now c.loop.index past)) ∙ c.loop.invariant
    ∙ ap (λ (ss : List MainStep). map (λ s. false) ss) is_steps in
    let back = c.in_ok-pending.ensures.back in
    let place = ap place_at c.new.ensures.items in
    let more : c.deref-2.result.now ≡ further document [] true steps falses =
    c.deref-2.ensures.value ∙ c.in_ok-pending.ensures.further ∙ ap (λ p. further document p true (main_steps c.steps-steps.result.now) c.deref.result.now) place ∙ ap (λ (ss : List MainStep). further document [] true ss c.deref.result.now) is_steps ∙ ap (λ bs. further document [] true steps bs) are_falses in
    let top : document_of done ≡ document = same_document _ done c.in_ok-descend.ensures.back ∙ same_document _ taken back in
    let looked = looked_then _ taken done (λ looks. path_looks_at document looks (place_at c.new.result.items) true (main_steps c.steps-steps.result.now) c.deref.result.now)
    (λ looks. looks_found_below (document_of taken) looks (main_steps c.take.new.self.steps.now) c.deref-2.result.now (place_in taken) whole) (λ looks. query_looks document looks query) back.document
    (λ looks. sym (ap (λ b. b || looks_found_below (document_of taken) looks (main_steps c.take.new.self.steps.now) c.deref-2.result.now (place_in taken) whole)
    (looks_here document document (main_steps c.steps-steps.result.now) steps (place_at c.new.result.items) [] true c.deref.result.now falses looks refl is_steps place are_falses)
    ∙ ap (λ b. path_looks_at document looks [] true steps falses || b)
    (below_there (document_of taken) document (main_steps c.take.new.self.steps.now) steps (place_in taken) [] c.deref-2.result.now (further document [] true steps falses) whole looks
    (same_document _ taken back) (ap (λ (s : Bor (List (Step Expression))). main_steps s.now) c.in_ok-pending.ensures.steps ∙ is_steps) (same_place _ taken back ∙ place) more)
    ∙ looks_all document looks query c.children-ordered.ensures.ordered))
    c.in_ok-pending.ensures.looks c.in_ok-descend.ensures.looks in
    c.in_ok-names.ensures
    ∙ ap (λ (d : Node). map (λ path. label_of d ∷ path) (filter (marked d done.marks) (paths_of d))) (sym top)
    ∙ names_of_looks _ done (λ looks. query_looks document looks query) c.children-ordered.ensures.ordered (c.in_ok-descend.ensures.back.document ∙ back.document) c.new-2.ensures looked
    ∙ ap (λ (d : Node). filter (λ name. query_looks document (is_full_at name) query) (names_of d)) top
