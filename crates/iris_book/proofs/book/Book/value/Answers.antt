use Rattle.std.proofs.Common.{◌≡◌, ◌+◌, ◌∙◌, sym, ap, rules, Some, None, option_copied, slice_get}
use Rattle.iris_book.specs.Book.{Recorded, Updates, value_at, value_after, updates_of}
use Rattle.iris_book.proofs.LogEntries.{updates_in-entries_of}
use Rattle.iris_book.proofs.Values.{value_is, value_absent}
use Rattle.iris_book.proofs.book.Book.value.Goals as goal

pub returns-in_err-get-in-Some : goal.returns-in_err-get-in-Some
returns-in_err-get-in-Some c =
    let none : c.from_residual.result ≡ None = search rules in
    let gone : None ≡ slice_get (updates_of c.self.inside.linked.updates c.args.name.now) c.in-Some.before = search rules in
    let next : c.in-Some.before + 1 ≡ c.args.version = search rules in
    ap option_copied none
    ∙ sym (value_absent c.self.inside.start c.self.inside.linked.updates c.args.name.now c.in-Some.before (sym gone))
    ∙ ap (λ n. value_after c.self.inside.start c.self.inside.linked.updates c.args.name.now n) next
    ∙ sym (ap (λ (us : Updates). value_after c.self.inside.start us c.args.name.now c.args.version) (updates_in-entries_of c.self.inside.log.items c.self.inside.linked.updates c.self.invariant.counted))
    ∙ ap (λ (r : Recorded). value_at r.history c.args.name.now c.args.version) c.self.view_is

pub returns-in_ok-get-in-Some : goal.returns-in_ok-get-in-Some
returns-in_ok-get-in-Some c =
    let there : Some c.in_ok-get-in-Some.field-0.now ≡ slice_get (updates_of c.self.inside.linked.updates c.args.name.now) c.in-Some.before = search rules in
    let next : c.in-Some.before + 1 ≡ c.args.version = search rules in
    sym (value_is c.self.inside.start c.self.inside.linked.updates c.args.name.now c.in-Some.before c.in_ok-get-in-Some.field-0.now c.self.invariant.sound (sym there))
    ∙ ap (λ n. value_after c.self.inside.start c.self.inside.linked.updates c.args.name.now n) next
    ∙ sym (ap (λ (us : Updates). value_after c.self.inside.start us c.args.name.now c.args.version) (updates_in-entries_of c.self.inside.log.items c.self.inside.linked.updates c.self.invariant.counted))
    ∙ ap (λ (r : Recorded). value_at r.history c.args.name.now c.args.version) c.self.view_is
