use Rattle.std.proofs.Common.{◌≡◌, ◌∙◌, sym, ap, List}
use Rattle.std.proofs.lemmas.Result.{on_ok_weaker}
use Rattle.std.specs.BTreeMap.{insert_entry}
use Rattle.std.specs.Option.{option_to_list}
use Rattle.iris_base.specs.declared.name.Label.{Label}
use Rattle.iris_need.specs.declared.need.Need.{Need}
use Rattle.iris_base.specs.declared.state.State.{State}
use Rattle.iris_need.specs.Needs.{with_look}
use Rattle.iris_need.specs.Collected.{needs_of}
use Rattle.iris_need.proofs.Pieces.{Entries, names_cmp, look_absent, look_found}
use Rattle.iris_need.proofs.needs.Needs.add.Goals as goal

pub returns-in-Some : goal.returns-in-Some
returns-in-Some c =
    on_ok_weaker c.join.result (λ states.
    ap (λ (es : Entries). needs_of es) (c.get_mut.follows.holds c.join.new.self).0
    ∙ look_found c.self.inside.map.entries c.args.name.now c.in-Some.asked.now c.join.new.self c.args.level (option_to_list c.args.state) c.get_mut.ensures.ordered (sym c.in-Some.ensures.value) c.join.ensures.level states
    ∙ ap (λ (ns : List Need). with_look ns (record { name = c.args.name.now; level = c.args.level; states = option_to_list c.args.state })) c.self.view_is) c.join.ensures.states

pub returns : goal.returns
returns c =
    let same = c.in_ok-insert.ensures.entries ∙ ap (λ m. insert_entry names_cmp m.entries c.in_ok-copy.field-0 (record { level = c.args.level; states = c.in_ok-states.states })) c.get_mut.follows.holds-at-none
    ∙ ap (λ (n : List Label). insert_entry names_cmp c.self.inside.map.entries n (record { level = c.args.level; states = c.in_ok-states.states })) c.in_ok-copy.ensures in
    let asked : ◌≡◌ {A = Need} (record { name = c.args.name.now; level = c.args.level; states = c.in_ok-states.states.items }) (record { name = c.args.name.now; level = c.args.level; states = option_to_list c.args.state }) =
    ap {B = Need} (λ (s : List State). record { name = c.args.name.now; level = c.args.level; states = s }) c.in_ok-states.ensures in
    ap (λ (es : Entries). needs_of es) same
    ∙ look_absent c.self.inside.map.entries c.args.name.now (record { level = c.args.level; states = c.in_ok-states.states }) (record { name = c.args.name.now; level = c.args.level; states = option_to_list c.args.state }) (sym c.in_default.ensures.value) asked
    ∙ ap (λ (ns : List Need). with_look ns (record { name = c.args.name.now; level = c.args.level; states = option_to_list c.args.state })) c.self.view_is
