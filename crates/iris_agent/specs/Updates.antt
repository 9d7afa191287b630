-- What an update leaves that the owner of its node serves.
use Rattle.std.specs.Prelude.{ℕ, suc, nat_le, Bool, true, false, List, [], ◌∷◌, Option, Some, None, Result, Ok, Err, if◌then◌else◌}
use Rattle.std.specs.Option.{option_map_or}
use Rattle.iris_base.specs.declared.name.Label.{Label}
use Rattle.iris_tree.specs.declared.local.Local.{Local}
use Rattle.iris_tree.specs.declared.change.Change.{Change}
use Rattle.iris_fragment.specs.declared.held.Part.{Part}
use Rattle.iris_fragment.specs.declared.held.Part.TheVariants.{Own, Copied, Bare}
use Rattle.iris_fragment.specs.Contents.{Contents, held_at}
use Rattle.iris_fragment.specs.Changes.{part_in, version_at}
use Rattle.iris_book.specs.declared.entry.Entry.TheVariants as entries
use Rattle.iris_cache.specs.Recency.{renewed_in}
use Rattle.iris_migrate.specs.Titles.{with_last}
use Rattle.iris_agent.specs.declared.step.Step.TheVariants as steps
use Rattle.iris_agent.specs.declared.step.Refusal.{Refusal}
use Rattle.iris_agent.specs.declared.step.Refusal.TheVariants as refusals
use Rattle.iris_agent.specs.declared.turn.Turn.{Turn}
use Rattle.iris_agent.specs.CityChanges.{changes_in_city}
use Rattle.iris_agent.specs.Tables.{Tables, with_cache, with_seat}
use Rattle.iris_agent.specs.Handled.{Handled, only_change, only_step}

-- the value of what is owned
abbrev pub own_value : Part → Option Local
own_value (Own local version) = Some local
own_value (Copied full) = None
own_value Bare = None

-- the value of the node of that name, where it is owned
abbrev pub value_owned : Contents → List Label → Option Local
value_owned f name = own_value (part_in (held_at f.nodes name))

-- a value after changes, or why they are refused
abbrev pub or_bad_change : Result Local ℕ → Result Local Refusal
or_bad_change (Ok local) = Ok local
or_bad_change (Err at) = Err (refusals.BadChange at)

-- what an update of that number makes of a value, or why it is refused
abbrev pub made_of : List (List ℕ) → Local → ℕ → ℕ → List Change → Result Local Refusal
made_of kinds local last number changes = if nat_le number last then Err (refusals.Old last) else or_bad_change (changes_in_city kinds local changes)

-- an update is accepted: the node has that value and is one version later
abbrev pub update_accepted : Tables → Turn → ℕ → List Label → ℕ → List Change → Local → Handled
update_accepted t turn request name number changes local = record {
  tables = with_seat (with_cache t (renewed_in t.cache name local)) name (with_last (t.seat name) number);
  turn = turn;
  entries = entries.Updated name number changes local turn.now ∷ [];
  steps = steps.Accepted request (option_map_or suc (version_at t.cache.contents name) 0) ∷ [];
}

-- an update with that value is accepted, where its row was kept
abbrev pub update_kept : Bool → Tables → Turn → ℕ → List Label → ℕ → List Change → Local → Handled
update_kept true t turn request name number changes local = update_accepted t turn request name number changes local
update_kept false t turn request name number changes local = only_step t turn (steps.Refused request refusals.Unkept)

-- an update with that value, or one that is refused
abbrev pub update_made : Bool → Tables → Turn → ℕ → List Label → ℕ → List Change → Result Local Refusal → Handled
update_made kept t turn request name number changes (Err refusal) = only_step t turn (steps.Refused request refusal)
update_made kept t turn request name number changes (Ok local) = update_kept kept t turn request name number changes local

-- an update of a node of that value, where it is owned, with the number of its last accepted update
abbrev pub update_of : Bool → Tables → Turn → ℕ → List Label → ℕ → List Change → Option Local → Option ℕ → Handled
update_of kept t turn request name number changes (Some local) (Some last) = update_made kept t turn request name number changes (made_of t.kinds local last number changes)
update_of kept t turn request name number changes (Some local) None = only_change t turn
update_of kept t turn request name number changes None last = only_change t turn

-- an update is served
abbrev pub update_served : Bool → Tables → Turn → ℕ → List Label → ℕ → List Change → Handled
update_served kept t turn request name number changes = update_of kept t turn request name number changes (value_owned t.cache.contents name) (t.seat name).last
