use Rattle.std.proofs.Common.{◌≡◌, List, map, sym, ◌∙◌, subst, ap, string_cmp}
use Rattle.std.specs.Map.Iter.{deref_pair}
use Rattle.std.specs.Map.{keys_of}
use Rattle.std.specs.List.Sorted.{IsStrictlySortedBy}
use Rattle.std.proofs.lemmas.Map.Iter.{iter_end}
use Rattle.std.proofs.lemmas.List.{map-append}
use Rattle.std.proofs.lemmas.Result.{err_from_is_err_and}
use Rattle.serde_json.specs.View.{members_view}
use Rattle.serde_json.proofs.Views.{Entry}
use Rattle.iris_base.specs.Forms.{IsTag}
use Rattle.iris_tree.specs.LocalText.{attrs_members}
use Rattle.iris_json.proofs.AttrReading.{same_error, attr_step, turn, attrs_same, attr_here, names_rise, names_of, texts_of}
use Rattle.iris_json.proofs.plain.read_members.Goals as goal

pub returns-in_err-tag-clause-only : goal.returns-in_err-tag-clause-only
returns-in_err-tag-clause-only c pairs is are =
    let whole = turn c.args.members.now.entries c.loop-name.yielded _ _ _ _ _ c.into_iter-name-iterator.ensures.into_iter_gives.0 c.loop-name.yielded_by c.in-Some.is c.next.ensures.steps in
    let here = attr_here (map deref_pair c.loop-name.yielded) (deref_pair (c.in-Some.name, c.in-Some.value)) c.next.new.self pairs (ap members_view (sym whole) ∙ is) are in
    let p = err_from_is_err_and c.from_residual.result c.from_residual.ensures.1 in
    rw (p.1, p.2) (same_error _ _ pairs (c.in_err-tag.ensures.only here.0 (subst IsTag (sym c.as_str.ensures.value) here.1) here.2))

pub loop-name-preserved : goal.loop-name-preserved
loop-name-preserved c =
    let whole = turn c.args.members.now.entries c.loop-name.yielded _ _ _ _ _ c.into_iter-name-iterator.ensures.into_iter_gives.0 c.loop-name.yielded_by c.in-Some.is c.next.ensures.steps in
    let sorted = subst (λ (es : List Entry). IsStrictlySortedBy string_cmp (keys_of es)) whole c.into_iter-name-iterator.ensures.into_iter_gives.5 in
    rw map-append (attr_step (map deref_pair c.loop-name.yielded) (deref_pair (c.in-Some.name, c.in-Some.value)) c.next.new.self c.loop-name.attrs c.insert.new.self _ _ _ sorted c.loop-name.invariant c.as_str.ensures.value c.in_ok-tag.ensures.found c.in_ok-tag.ensures.utf8 c.in_ok-insert.ensures.ok)

pub returns-clause-found : goal.returns-clause-found
returns-clause-found c =
    let end = iter_end deref_pair _ _ _ _ _ _ c.into_iter-name-iterator.ensures.into_iter_gives.0 c.loop-name.yielded_by c.in-None.is c.next.ensures.steps in
    let all : members_view c.args.members.now.entries ≡ attrs_members c.loop-name.attrs = ap members_view (sym end.0) ∙ c.loop-name.invariant.0 in
    (all, names_of c.loop-name.attrs c.loop-name.invariant.1)

pub returns-clause-texts : goal.returns-clause-texts
returns-clause-texts c =
    let end = iter_end deref_pair _ _ _ _ _ _ c.into_iter-name-iterator.ensures.into_iter_gives.0 c.loop-name.yielded_by c.in-None.is c.next.ensures.steps in
    let all : members_view c.args.members.now.entries ≡ attrs_members c.loop-name.attrs = ap members_view (sym end.0) ∙ c.loop-name.invariant.0 in
    record { rise = names_rise c.args.members.now.entries c.loop-name.attrs all c.into_iter-name-iterator.ensures.into_iter_gives.5; utf8 = texts_of c.loop-name.attrs c.loop-name.invariant.1 }

pub returns-clause-only : goal.returns-clause-only
returns-clause-only c pairs is are =
    let end = iter_end deref_pair _ _ _ _ _ _ c.into_iter-name-iterator.ensures.into_iter_gives.0 c.loop-name.yielded_by c.in-None.is c.next.ensures.steps in
    attrs_same c.loop-name.attrs pairs (sym c.loop-name.invariant.0 ∙ ap members_view end.0 ∙ is)
