use Rattle.std.proofs.Common.{◌≡◌, ◌∙◌, sym, ap, subst, rules, true, Some, None, slice_get, List}
use Rattle.std.specs.Prelude.{IsTrue, ◌↔◌, IfSome}
use Rattle.std.proofs.Common.{leb, ◌≤◌}
use Rattle.iris_book.specs.declared.update.NodeUpdate.{NodeUpdate}
use Rattle.iris_book.specs.Book.{Recorded, Updates, updates_of, updates_at}
use Rattle.iris_book.proofs.LogEntries.{updates_in-entries_of}
use Rattle.iris_book.proofs.Moments.{not_over_some, not_over_none}
use Rattle.iris_book.proofs.book.Book.was_not_over.Goals as goal

pub returns-in-Some : goal.returns-in-Some
returns-in-Some c =
    let same : updates_of c.self.inside.linked.updates c.args.name.now ≡ updates_at c.args.self.now.history c.args.name.now =
    sym (ap (λ (us : Updates). updates_of us c.args.name.now) (updates_in-entries_of c.self.inside.log.items c.self.inside.linked.updates c.self.invariant.counted)) ∙ ap (λ (r : Recorded). updates_at r.history c.args.name.now) c.self.view_is in
    let there : Some c.in-Some.update.now ≡ slice_get (updates_of c.self.inside.linked.updates c.args.name.now) c.args.version = search rules in
    subst (λ (us : List NodeUpdate). IsTrue (leb c.args.stamp c.in-Some.update.now.at) ↔ IfSome (slice_get us c.args.version) (λ v. c.args.stamp ≤ v.at)) same
    (not_over_some (updates_of c.self.inside.linked.updates c.args.name.now) c.args.version c.args.stamp c.in-Some.update.now there)

pub returns-in-None : goal.returns-in-None
returns-in-None c =
    let same : updates_of c.self.inside.linked.updates c.args.name.now ≡ updates_at c.args.self.now.history c.args.name.now =
    sym (ap (λ (us : Updates). updates_of us c.args.name.now) (updates_in-entries_of c.self.inside.log.items c.self.inside.linked.updates c.self.invariant.counted)) ∙ ap (λ (r : Recorded). updates_at r.history c.args.name.now) c.self.view_is in
    let gone : None ≡ slice_get (updates_of c.self.inside.linked.updates c.args.name.now) c.args.version = search rules in
    subst (λ (us : List NodeUpdate). IsTrue true ↔ IfSome (slice_get us c.args.version) (λ v. c.args.stamp ≤ v.at)) same
    (not_over_none (updates_of c.self.inside.linked.updates c.args.name.now) c.args.version c.args.stamp gone)
