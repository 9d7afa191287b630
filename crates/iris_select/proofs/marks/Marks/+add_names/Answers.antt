use Rattle.std.proofs.Common.{◌≡◌, ◌∙◌, List, [], ◌∷◌, ◌++◌, sym, ap, refl, subst, map, filter, length, drop, Bool, true, false, cond, rules}
use Rattle.std.proofs.lemmas.Result.{on_ok_weaker}
use Rattle.std.proofs.lemmas.List.{append-nil, length_push}
use Rattle.std.proofs.lemmas.Slice.Zip.{zip_turn, zip_end}
use Rattle.iris_base.specs.declared.name.Label.{Label}
use Rattle.iris_tree.specs.NodeCode.{size_of-found}
use Rattle.iris_tree.specs.Universe.{label_of, children_of}
use Rattle.iris_select.specs.Marks.{marked, paths_of}
use Rattle.iris_select.specs.declared.marks.Marks.TheViews.{out-Marks}
use Rattle.iris_select.proofs.Marking.{marked_whole, marked_start, marked_step, marked_end, marked_left, children_ordered, popped}
use Rattle.iris_select.proofs.marks.Marks.+add_names.Goals.{then-self-2+in_ok-copy+in_ok-push, else-self-2}
use Rattle.iris_select.proofs.marks.Marks.+add_names.Goals as goal

pub returns-then-self-clause-full : goal.returns-then-self-clause-full
returns-then-self-clause-full t c =
    on_ok_weaker c.add_all.result (λ h. h ∙ ap (λ (ns : List (List Label)). c.args.full.now.items ++ ns) (sym (marked_whole c.args.name.now c.args.node.now c.args.self.now c.if-self.true))) c.add_all.ensures.full

own_kept : (full before : List (List Label)) (name : List Label) (own b : Bool) → own ≡ b → full ≡ before ++ cond b (name ∷ []) [] → full ≡ before ++ cond own (name ∷ []) []
own_kept full before name own b is h = h ∙ ap (λ x. before ++ cond x (name ∷ []) []) (sym is)

pub loop-child-init : goal.loop-child-init
loop-child-init t c =
    let so_far : c.if-self-2.full.items ≡ c.args.full.now.items ++ cond (out-Marks c.args.self.now).own (c.args.name.now ∷ []) [] =
    elim c.if-self-2.branch [
      | then-self-2+in_ok-copy+in_ok-push w ↦
          let pushed : w.push.new.self.items ≡ c.args.full.now.items ++ c.args.name.now ∷ [] = search rules in
          own_kept c.if-self-2.full.items c.args.full.now.items c.args.name.now (out-Marks c.args.self.now).own true w.if-self-2.true (cc)
      | else-self-2 w ↦ own_kept c.if-self-2.full.items c.args.full.now.items c.args.name.now (out-Marks c.args.self.now).own false w.if-self-2.false (cc (append-nil c.args.full.now.items))
    ] in
    record { name = refl; full = marked_start c.args.name.now c.args.node.now c.args.self.now c.args.full.now.items c.if-self-2.full.items c.if-self.false so_far }

pub add_names-requires : goal.add_names-requires
add_names-requires t c =
    let turn = zip_turn (children_of c.args.node.now) (out-Marks c.args.self.now).children.items c.loop-child.yielded c.into_iter-child-iterator.result c.loop-child.child-iterator c.next.new.self _ (cc) (cc) c.loop-child.yielded_by _ c.in-Some.is c.next.ensures.steps in
    (size_of-found t c.args.node.now (children_of c.args.node.now) (length c.loop-child.yielded) c.in-Some.child.now refl turn.0 (turn.2 c.in-Some.child.now) c.decreases, tt)

pub loop-child-preserved : goal.loop-child-preserved
loop-child-preserved t c =
    let turn = zip_turn (children_of c.args.node.now) (out-Marks c.args.self.now).children.items c.loop-child.yielded c.into_iter-child-iterator.result c.loop-child.child-iterator c.next.new.self _ (cc) (cc) c.loop-child.yielded_by _ c.in-Some.is c.next.ensures.steps in
    let child = c.in-Some.child.now in
    let marks = c.in-Some.marks.now in
    let pushed : c.push-in-loop-child.new.self ≡ c.args.name.now ++ label_of child ∷ [] =
    c.in_ok-push-2.ensures.ok ∙ ap (λ (m : List Label). m ++ c.label.result.now ∷ []) c.loop-child.invariant.name ∙ ap (λ (l : Label). c.args.name.now ++ l ∷ []) c.label.ensures in
    let more = c.in_ok-add_names.ensures.full ∙ ap (λ (m : List Label). c.loop-child.full.items ++ map (λ path. m ++ path) (filter (marked child marks) (paths_of child))) pushed in
    record {
      name = popped c.pop.result c.add_names.new.name c.pop.new.self c.args.name.now (label_of child) c.pop.ensures (c.in_ok-add_names.ensures.name ∙ pushed);
      full = subst (λ k. c.add_names.new.full.items ++ marked_left c.args.name.now (drop k (children_of c.args.node.now)) (drop k (out-Marks c.args.self.now).children.items) ≡ c.args.full.now.items ++ map (λ path. c.args.name.now ++ path) (filter (marked c.args.node.now c.args.self.now) (paths_of c.args.node.now)))
          (sym (length_push c.loop-child.yielded (c.in-Some.child, c.in-Some.marks)))
          (marked_step c.args.name.now (children_of c.args.node.now) (out-Marks c.args.self.now).children.items (length c.loop-child.yielded) child marks c.loop-child.full.items c.add_names.new.full.items _
          (children_ordered c.args.node.now (children_of c.args.node.now) refl c.children.ensures.ordered) turn.0 turn.1 (turn.2 child) (turn.3 marks) more c.loop-child.invariant.full);
    }

pub returns-clause-full : goal.returns-clause-full
returns-clause-full t c =
    let last = zip_end (children_of c.args.node.now) (out-Marks c.args.self.now).children.items c.loop-child.yielded c.into_iter-child-iterator.result c.loop-child.child-iterator c.next.new.self _ (cc) (cc) c.loop-child.yielded_by c.in-None.is c.next.ensures.steps in
    marked_end c.args.name.now (children_of c.args.node.now) (out-Marks c.args.self.now).children.items (length c.loop-child.yielded) c.loop-child.full.items _ last c.loop-child.invariant.full
