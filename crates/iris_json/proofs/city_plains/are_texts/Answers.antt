use Rattle.std.proofs.Common.{List, map, true≢false, sym, ◌∙◌, subst, rules}
use Rattle.std.specs.Map.Iter.{deref_pair}
use Rattle.std.proofs.lemmas.List.{map-append}
use Rattle.serde_json.specs.View.{members_view}
use Rattle.serde_json.proofs.Views.{Entry}
use Rattle.iris_json.specs.CityRows.{EachMember, IsTextData}
use Rattle.iris_json.proofs.AttrReading.{turn}
use Rattle.iris_json.proofs.MemberKeys.{each_push, each_here}
use Rattle.iris_json.proofs.city_plains.are_texts.Goals as goal

pub returns-then-not-is_text : goal.returns-then-not-is_text
returns-then-not-is_text c = (
  λ h. absurd (true≢false (sym h)),
  λ all.
      let whole = turn c.args.members.now.entries c.loop-key.yielded _ _ _ _ _ c.into_iter-key-iterator.ensures.into_iter_gives.0 c.loop-key.yielded_by c.in-Some.is c.next.ensures.steps in
      let here = each_here (λ key value. IsTextData value) (map deref_pair c.loop-key.yielded) (deref_pair (c.in-Some._key, c.in-Some.value)) c.next.new.self (subst (λ (es : List Entry). EachMember (λ key value. IsTextData value) (members_view es)) whole all) in
      let told = c.is_text.ensures.1 here in
      search rules,
)

pub loop-key-preserved : goal.loop-key-preserved
loop-key-preserved c =
    rw map-append (each_push (λ key value. IsTextData value) (map deref_pair c.loop-key.yielded) (deref_pair (c.in-Some._key, c.in-Some.value)) c.loop-key.invariant (c.is_text.ensures.0 (search rules)))
