-- Programs that look at nodes, and what they give over a view.
use Rattle.std.specs.Prelude.{◌≡◌, Bool, true, false, List, [], ◌∷◌, ◌++◌, Option, Some, None, is_some}
use Rattle.std.specs.Option.{option_map_or}
use Rattle.iris_base.specs.declared.name.Label.{Label}
use Rattle.iris_tree.specs.declared.local.Local.{Local}
use Rattle.iris_tree.specs.Universe.{Node, local_of, ids_of, node_at}
use Rattle.iris_fragment.specs.declared.piece.Level.{Level}
use Rattle.iris_fragment.specs.declared.piece.Level.TheVariants.{Ids, Full}
use Rattle.iris_need.specs.declared.need.Need.{Need}
use Rattle.iris_base.specs.declared.state.State.{State}

-- what is known of a node: its ids, and its local information where that is known
pub record Known : Type 0 where
  pub ids : List Label
  pub local : Option Local

abbrev pub View : Type 0
View = List Label → Option Known

-- A program that gives an A. It doesn't know the view; what it looks at is met by a view, or is not.
pub data Run : Type 0 → Type 1 where
  give : {A : Type 0} → A → Run A
  see_ids : {A : Type 0} → List Label → List State → (List Label → Run A) → Run A
  see_full : {A : Type 0} → List Label → List State → (List Label → Local → Run A) → Run A
  both : {A B C : Type 0} → (A → B → C) → Run A → Run B → Run C
  next : {A B : Type 0} → Run A → (A → Run B) → Run B

-- what it looked at, in its order, and what it gives, if it is decided
pub record Out (A : Type 0) : Type 0 where
  pub log : List Need
  pub value : Option A

-- ---- over a view

abbrev pub ids_known : Option Known → Option (List Label)
ids_known None = None
ids_known (Some k) = Some k.ids

pub record Seen : Type 0 where
  pub ids : List Label
  pub local : Local

abbrev pub seen_with : List Label → Option Local → Option Seen
seen_with ids None = None
seen_with ids (Some local) = Some (record { ids = ids; local = local })

abbrev pub full_known : Option Known → Option Seen
full_known None = None
full_known (Some k) = seen_with k.ids k.local

abbrev pub logged : {A : Type 0} → Need → Out A → Out A
logged look out = record { log = look ∷ out.log; value = out.value }

abbrev pub undecided : {A : Type 0} → List Need → Out A
undecided looks = record { log = looks; value = None }

abbrev pub pair_value : {A B C : Type 0} → (A → B → C) → Option A → Option B → Option C
pair_value f None b = None
pair_value f (Some a) None = None
pair_value f (Some a) (Some b) = Some (f a b)

abbrev pub after_ids : {A : Type 0} → Need → Option (List Label) → (List Label → Out A) → Out A
after_ids look None f = undecided (look ∷ [])
after_ids look (Some ids) f = logged look (f ids)

abbrev pub after_full : {A : Type 0} → Need → Option Seen → (List Label → Local → Out A) → Out A
after_full look None f = undecided (look ∷ [])
after_full look (Some seen) f = logged look (f seen.ids seen.local)

abbrev pub after : {A B : Type 0} → List Need → Option A → (A → Out B) → Out B
after looks None f = undecided looks
after looks (Some a) f = record { log = looks ++ (f a).log; value = (f a).value }

-- A look that the view doesn't meet ends its path. Of two programs both are made; the second of two that follow one another only where the first is decided.
abbrev pub run : View → {A : Type 0} → Run A → Out A
run w (give a) = record { log = []; value = Some a }
run w (see_ids name states k) = after_ids (record { name = name; level = Ids; states = states }) (ids_known (w name)) (λ ids. run w (k ids))
run w (see_full name states k) = after_full (record { name = name; level = Full; states = states }) (full_known (w name)) (λ ids local. run w (k ids local))
run w (both f r s) = record { log = (run w r).log ++ (run w s).log; value = pair_value f (run w r).value (run w s).value }
run w (next r k) = after (run w r).log (run w r).value (λ a. run w (k a))

-- ---- over a whole document

-- local information with nothing in it
abbrev pub no_local : Local
no_local = record { attrs = []; plain = [] }

abbrev pub ids_in : Node → List Label → List Label
ids_in document name = option_map_or ids_of (node_at document name) []

abbrev pub local_in : Node → List Label → Local
local_in document name = option_map_or local_of (node_at document name) no_local

-- all of a document; what is no node of it has no ids and nothing in it
abbrev pub all_of : Node → View
all_of document name = Some (record { ids = ids_in document name; local = Some (local_in document name) })

-- what a program gives where it never lacks an answer
abbrev pub eval : Node → {A : Type 0} → Run A → A
eval d (give a) = a
eval d (see_ids name states k) = eval d (k (ids_in d name))
eval d (see_full name states k) = eval d (k (ids_in d name) (local_in d name))
eval d (both f r s) = f (eval d r) (eval d s)
eval d (next r k) = eval d (k (eval d r))

-- ---- one view is part of another

abbrev pub LocalBelow : Option Local → Option Local → Type 0
LocalBelow None more = Unit {0}
LocalBelow (Some local) None = ⊥
LocalBelow (Some local) (Some more) = local ≡ more

abbrev pub KnownBelow : Option Known → Option Known → Type 0
KnownBelow None more = Unit {0}
KnownBelow (Some k) None = ⊥
KnownBelow (Some k) (Some more) = (k.ids ≡ more.ids) × LocalBelow k.local more.local

-- what the one knows the other knows too
abbrev pub Below : View → View → Type 0
Below w v = (name : List Label) → KnownBelow (w name) (v name)

-- ---- what is met

abbrev pub meets_known : Level → Option Known → Bool
meets_known level None = false
meets_known Ids (Some k) = true
meets_known Full (Some k) = is_some k.local

-- whether the view meets a look: it knows the ids, or for the level Full the local information
abbrev pub meets : View → Need → Bool
meets w look = meets_known look.level (w look.name)
