use Rattle.std.proofs.Common.{◌≡◌, ◌+◌, ◌∙◌, sym, ap, subst, rules, true, Some, None, slice_get, List}
use Rattle.std.specs.Prelude.{IsTrue, ◌↔◌}
use Rattle.std.proofs.Common.{leb}
use Rattle.iris_book.specs.declared.update.NodeUpdate.{NodeUpdate}
use Rattle.iris_book.specs.Book.{Recorded, Updates, updates_of, updates_at}
use Rattle.iris_book.proofs.LogEntries.{updates_in-entries_of}
use Rattle.iris_book.proofs.Moments.{BegunBy, begun_some, begun_none}
use Rattle.iris_book.proofs.book.Book.had_begun.Goals as goal

pub returns-in-Some-get : goal.returns-in-Some-get
returns-in-Some-get c =
    let same : updates_of c.self.inside.linked.updates c.args.name.now ≡ updates_at c.args.self.now.history c.args.name.now =
    sym (ap (λ (us : Updates). updates_of us c.args.name.now) (updates_in-entries_of c.self.inside.log.items c.self.inside.linked.updates c.self.invariant.counted)) ∙ ap (λ (r : Recorded). updates_at r.history c.args.name.now) c.self.view_is in
    let there : Some c.in-Some-get.update.now ≡ slice_get (updates_of c.self.inside.linked.updates c.args.name.now) c.in-Some.before = search rules in
    let next : c.in-Some.before + 1 ≡ c.args.version = search rules in
    subst (λ (us : List NodeUpdate). IsTrue (leb c.in-Some-get.update.now.at c.args.stamp) ↔ BegunBy us c.args.version c.args.stamp) same
    (begun_some (updates_of c.self.inside.linked.updates c.args.name.now) c.args.version c.in-Some.before c.args.stamp c.in-Some-get.update.now next there)

pub returns-in-None : goal.returns-in-None
returns-in-None c =
    let same : updates_of c.self.inside.linked.updates c.args.name.now ≡ updates_at c.args.self.now.history c.args.name.now =
    sym (ap (λ (us : Updates). updates_of us c.args.name.now) (updates_in-entries_of c.self.inside.log.items c.self.inside.linked.updates c.self.invariant.counted)) ∙ ap (λ (r : Recorded). updates_at r.history c.args.name.now) c.self.view_is in
    let gone : None ≡ slice_get (updates_of c.self.inside.linked.updates c.args.name.now) c.in-Some.before = search rules in
    let next : c.in-Some.before + 1 ≡ c.args.version = search rules in
    subst (λ (us : List NodeUpdate). IsTrue true ↔ BegunBy us c.args.version c.args.stamp) same
    (begun_none (updates_of c.self.inside.linked.updates c.args.name.now) c.args.version c.in-Some.before c.args.stamp next gone)
