use Rattle.std.proofs.Common.{◌≡◌, ◌+◌, length, slice_get, Some, rules}
use Rattle.iris_tree.specs.Universe.{node_at}
use Rattle.iris_book.specs.Book.{updates_of}
use Rattle.iris_book.proofs.LogEntries.{updates_in-entries_of}
use Rattle.iris_book.proofs.Values.{newest_updated, newest_at_start, newest_in}
use Rattle.iris_book.proofs.book.Book.newest.Goals as goal

pub returns-in-Some-clause-version : goal.returns-in-Some-clause-version
returns-in-Some-clause-version c =
    let us = c.self.inside.linked.updates in
    let u = c.in-Some.last.now in
    let there : slice_get (updates_of us c.args.name.now) u.before ≡ Some u.update = search rules in
    let count : u.before + 1 ≡ length (updates_of us c.args.name.now) = search rules in
    (newest_in _ _ us _ _ _ _ _ _ (updates_in-entries_of c.self.inside.log.items us c.self.invariant.counted) c.self.view_is (newest_updated c.self.inside.start us c.args.name.now u.before u.update c.self.invariant.sound there count)).has_version

pub returns-in-Some-clause-value : goal.returns-in-Some-clause-value
returns-in-Some-clause-value c =
    let us = c.self.inside.linked.updates in
    let u = c.in-Some.last.now in
    let there : slice_get (updates_of us c.args.name.now) u.before ≡ Some u.update = search rules in
    let count : u.before + 1 ≡ length (updates_of us c.args.name.now) = search rules in
    (newest_in _ _ us _ _ _ _ _ _ (updates_in-entries_of c.self.inside.log.items us c.self.invariant.counted) c.self.view_is (newest_updated c.self.inside.start us c.args.name.now u.before u.update c.self.invariant.sound there count)).has_value

pub returns-in-Some-clause-number : goal.returns-in-Some-clause-number
returns-in-Some-clause-number c =
    let us = c.self.inside.linked.updates in
    let u = c.in-Some.last.now in
    let there : slice_get (updates_of us c.args.name.now) u.before ≡ Some u.update = search rules in
    let count : u.before + 1 ≡ length (updates_of us c.args.name.now) = search rules in
    (newest_in _ _ us _ _ _ _ _ _ (updates_in-entries_of c.self.inside.log.items us c.self.invariant.counted) c.self.view_is (newest_updated c.self.inside.start us c.args.name.now u.before u.update c.self.invariant.sound there count)).has_number

pub returns-clause-version : goal.returns-clause-version
returns-clause-version c =
    let us = c.self.inside.linked.updates in
    let none : 0 ≡ length (updates_of us c.args.name.now) = search rules in
    let found : Some c.in_ok-start.start.now ≡ node_at c.self.inside.start c.args.name.now = search rules in
    (newest_in _ _ us _ _ _ _ _ _ (updates_in-entries_of c.self.inside.log.items us c.self.invariant.counted) c.self.view_is (newest_at_start c.self.inside.start us c.args.name.now c.in_ok-start.start.now none found)).has_version

pub returns-clause-number : goal.returns-clause-number
returns-clause-number c =
    let us = c.self.inside.linked.updates in
    let none : 0 ≡ length (updates_of us c.args.name.now) = search rules in
    let found : Some c.in_ok-start.start.now ≡ node_at c.self.inside.start c.args.name.now = search rules in
    (newest_in _ _ us _ _ _ _ _ _ (updates_in-entries_of c.self.inside.log.items us c.self.invariant.counted) c.self.view_is (newest_at_start c.self.inside.start us c.args.name.now c.in_ok-start.start.now none found)).has_number
