use Rattle.std.proofs.Common.{◌≡◌, ◌++◌, ◌∷◌, [], List, Bool, ◌&&◌, false, append-nil, refl, sym, ap, subst, ◌∙◌}
use Rattle.iris_tree.specs.Universe.{Node}
use Rattle.iris_tree.specs.Document.{Place}
use Rattle.iris_xpath.specs.Looks.{Looks, whole_looks}
use Rattle.iris_xpath.proofs.Passes.{or_false}
use Rattle.iris_select.specs.Looking.{path_looks_at}
use Rattle.iris_select.specs.Marks.{HasLooked}
use Rattle.iris_select.proofs.Looked.{looked_as, left_none, left_fewer}
use Rattle.iris_select.specs.declared.walk.Selected.{Selected}
use Rattle.iris_select.specs.declared.walk.Walker.{Walker}
use Rattle.iris_select.specs.Parts.{place_at}
use Rattle.iris_select.specs.Evaluating.{document_of, place_in}
use Rattle.iris_select.specs.Walking.{main_steps}
use Rattle.std.proofs.lemmas.Slice.Zip.{either_empty_from_Zip}
use Rattle.iris_select.proofs.Adding.{steps_ended, further_end, ends_end, looks_end, takes_one, takes_none, same_document, same_place}
use Rattle.iris_select.proofs.walk.Walker.take.Goals as goal
use Rattle.iris_select.proofs.walk.Walker.take.Goals.{then-is_here-2+in_ok-place_of+in_ok-push-2, else-is_here-2}

pub returns-clause-further : goal.returns-clause-further
returns-clause-further c =
    let e = c.args.self.now.evaluator in
    let steps = c.loop-step.step-iterator.a.rest.now in
    let pending = c.loop-step.step-iterator.b.rest.now in
    sym (append-nil c.loop-step.further.items)
    ∙ ap (λ (bs : List Bool). c.loop-step.further.items ++ bs) (sym (further_end (document_of e) (place_in e) c.loop-step.is_here (main_steps steps) pending (steps_ended steps pending (either_empty_from_Zip c.loop-step.step-iterator c.next.new.self c.next.result c.in-None.is c.next.ensures.steps))))
    ∙ c.loop-step.invariant.further

pub returns-clause-found : goal.returns-clause-found
returns-clause-found c =
    let e = c.args.self.now.evaluator in
    let steps = c.loop-step.step-iterator.a.rest.now in
    let pending = c.loop-step.step-iterator.b.rest.now in
    let ends = sym (ends_end (document_of e) (place_in e) c.loop-step.is_here (main_steps steps) pending (steps_ended steps pending (either_empty_from_Zip c.loop-step.step-iterator c.next.new.self c.next.result c.in-None.is c.next.ensures.steps))) ∙ c.loop-step.invariant.ends in
    let old = c.args.self.now.selected.items in
    elim c.if-is_here-2.branch [
      | then-is_here-2+in_ok-place_of+in_ok-push-2 w ↦
          let s : Selected = record { place = w.in_ok-place_of.field-0; spot = c.args.spot } in
          takes_one (document_of e) old c.if-is_here-2.self.selected.items s (place_at w.deref.result.now) (place_in e) _
          (ap (λ (x : Walker). x.selected.items) w.self-is ∙ w.in_ok-push-2.ensures.items ∙ ap (λ (xs : List Selected). xs ++ s ∷ []) c.loop-step.invariant.selected)
          c.requires.stands.there w.in_ok-place_of.ensures.name w.in_ok-place_of.ensures.path (ap place_at (w.deref.ensures.value ∙ c.in_ok-look_below.ensures.back.trail ∙ c.loop-step.invariant.back.trail)) (sym ends ∙ w.if-is_here-2.true)
      | else-is_here-2 w ↦
          takes_none (document_of e) old c.if-is_here-2.self.selected.items (place_in e) _ (ap (λ (x : Walker). x.selected.items) w.self-is ∙ c.loop-step.invariant.selected) (sym ends ∙ w.if-is_here-2.false)
    ]

pub returns-clause-looks : goal.returns-clause-looks
returns-clause-looks c =
    let e = c.args.self.now.evaluator in
    let now = c.loop-step.self.evaluator in
    let done = c.look_below.new.evaluator in
    let steps = c.loop-step.step-iterator.a.rest.now in
    let pending = c.loop-step.step-iterator.b.rest.now in
    let ended = steps_ended steps pending (either_empty_from_Zip c.loop-step.step-iterator c.next.new.self c.next.result c.in-None.is c.next.ensures.steps) in
    let made = λ (looks : Looks). c.loop-step.is_here && whole_looks (document_of e) looks (place_in e) in
    let back = c.loop-step.invariant.back in
    let looked : HasLooked now done made =
    looked_as now done (λ looks. c.loop-step.is_here && whole_looks (document_of now) looks (place_in now)) made
    (λ looks. ap (λ (d : Node). c.loop-step.is_here && whole_looks d looks (place_in now)) (same_document e now back) ∙ ap (λ (p : Place). c.loop-step.is_here && whole_looks (document_of e) looks p) (same_place e now back)) c.in_ok-look_below.ensures.looks in
    let whole_path = λ (looks : Looks). path_looks_at (document_of e) looks (place_in e) c.args.is_begin (main_steps c.args.self.now.steps.now) c.args.pending.now in
    let all : HasLooked e done whole_path =
    left_none e done (λ looks. false) whole_path (λ looks. refl)
    (left_fewer e now done made (λ looks. path_looks_at (document_of e) looks (place_in e) c.loop-step.is_here (main_steps steps) pending) (λ looks. false) whole_path back.document
    (λ looks. looks_end (document_of e) looks (place_in e) c.loop-step.is_here (main_steps steps) pending ended ∙ sym (or_false (made looks))) looked c.loop-step.invariant.looks) in
    elim c.if-is_here-2.branch [
      | then-is_here-2+in_ok-place_of+in_ok-push-2 w ↦ subst (λ (x : Walker). HasLooked e x.evaluator whole_path) (sym w.self-is) all
      | else-is_here-2 w ↦ subst (λ (x : Walker). HasLooked e x.evaluator whole_path) (sym w.self-is) all
    ]
