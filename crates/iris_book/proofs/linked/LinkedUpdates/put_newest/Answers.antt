use Rattle.std.proofs.Common.{◌≡◌, ◌<◌, ◌≤◌, ◌∙◌, sym, ap, refl, rules, arith, length, Some, slice_get}
use Rattle.std.specs.Prelude.{slice_index}
use Rattle.std.proofs.lemmas.Option.{get_or_from_slice_get}
use Rattle.std.proofs.lemmas.List.{get_or_default}
use Rattle.iris_tree.specs.Document.{with_local, with_locals}
use Rattle.iris_tree.proofs.WithLocals.{locals_kept}
use Rattle.iris_book.specs.Book.{today_of}
use Rattle.iris_book.specs.Linked.{AcceptedUpdates}
use Rattle.iris_book.proofs.NewestDocument.{put_some, put_step, today_put}
use Rattle.iris_book.proofs.linked.LinkedUpdates.put_newest.Goals as goal
use Rattle.iris_book.proofs.linked.LinkedUpdates.put_newest.Goals.{in-Some+in_ok-copy, in_default}

pub loop-node-init : goal.loop-node-init
loop-node-init c = sym (locals_kept c.args.document.now (put_some c.self.inside.names.keys c.args.self.now.updates 0) (λ l m old. refl))

pub index-requires : goal.index-requires
index-requires c =
    let node : c.loop-node.node < length c.self.inside.names.keys = omega (arith, c.self.invariant.linked.lasts, c.loop-node-test.true, c.deref-last-items.ensures.len, c.self.inside.last.ok.0) in
    let here = (c.self.invariant.linked.ends c.loop-node.node node).2 in
    rw c.deref-last-items.ensures.value (omega (arith, here.within, c.self.inside.entered.ok.0))

pub loop-node-preserved : goal.loop-node-preserved
loop-node-preserved c =
    let node : c.loop-node.node < length c.self.inside.names.keys = omega (arith, c.self.invariant.linked.lasts, c.loop-node-test.true, c.deref-last-items.ensures.len, c.self.inside.last.ok.0) in
    elim c.match-get_index.branch [
      | in-Some+in_ok-copy w ↦
          let in_last : c.loop-node.node < length c.self.inside.last.items = omega (arith, c.self.invariant.linked.lasts) in
          let key : Some w.in-Some.name.now ≡ slice_get c.self.inside.names.keys c.loop-node.node = search rules in
          let put : w.set_local.new.self ≡ with_local c.loop-node.document w.in-Some.name.now w.index.result.now.update.local = search rules in
          w.document-is
          ∙ put_step c.args.document.now c.loop-node.document w.set_local.new.self c.self.inside.names.keys c.self.inside.last.items c.self.inside.entered.items c.args.self.now.updates c.loop-node.node
          (slice_index c.self.inside.last.items c.loop-node.node) w.in-Some.name.now w.index.result.now c.self.invariant (ap (λ (a : AcceptedUpdates). a.updates) c.self.view_is) node
          (sym (get_or_from_slice_get c.self.inside.names.keys c.loop-node.node w.in-Some.name.now w.in-Some.name.now (sym key)))
          (get_or_default c.self.inside.last.items c.loop-node.node 0 (slice_index c.self.inside.last.items c.loop-node.node) in_last)
          (rw c.deref-last-items.ensures.value at w.index.ensures) c.loop-node.invariant put
      | in_default w ↦ absurd (search rules)
    ]

pub returns : goal.returns
returns c =
    let past : length c.self.inside.names.keys ≤ c.loop-node.node = omega (arith, c.self.invariant.linked.lasts, c.loop-node-test.false, c.deref-last-items.ensures.len, c.self.inside.last.ok.0) in
    c.loop-node.invariant ∙ sym (ap (λ (a : AcceptedUpdates). with_locals c.args.document.now (put_some c.self.inside.names.keys a.updates c.loop-node.node)) c.self.view_is)
    ∙ today_put c.args.document.now _ _ _ c.loop-node.node c.self.invariant past ∙ ap (λ (a : AcceptedUpdates). today_of c.args.document.now a.updates) c.self.view_is
