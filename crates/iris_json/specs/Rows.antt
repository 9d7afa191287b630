-- A row of fields as a JSON object.
use Rattle.std.specs.Prelude.{ℕ, List, [], ◌∷◌, ◌++◌, map, codes, decimal}
use Rattle.std.specs.Borrow.{Bor}
use Rattle.serde_json.specs.Data.{Data, unsigned, boolean, number, string, array, object, Members, no_members, member}
use Rattle.serde_json.specs.View.{items_of}
use Rattle.iris_base.specs.NameText.{name_text}
use Rattle.iris_base.specs.declared.cite.Cite.{Cite}
use Rattle.iris_base.specs.declared.state.State.{State}
use Rattle.iris_base.specs.declared.state.State.TheVariants.{At, Seek, Test, Whole}
use Rattle.iris_json.specs.declared.row.Field.{Field}
use Rattle.iris_json.specs.declared.row.Field.TheVariants.{Number, Text, Boolean, Name, Items, Cites, Offers, States}
use Rattle.iris_json.specs.declared.find.Offer.{Offer}
use Rattle.iris_json.specs.Render.{items_data}

-- a whole number
abbrev pub number_data : ℕ → Data
number_data n = number (unsigned n)

-- a cite is the list of a name, a version and a moment
abbrev pub cite_data : Cite → Data
cite_data c = array (items_of (string (name_text c.name) ∷ number_data c.version ∷ number_data c.stamp ∷ []))

-- cites, in their order
abbrev pub cites_data : List Cite → Data
cites_data cites = array (items_of (map cite_data cites))

-- an offer is the list of a name and a price
abbrev pub offer_data : Offer → Data
offer_data o = array (items_of (string (name_text o.name) ∷ number_data o.price ∷ []))

-- offers, in their order
abbrev pub offers_data : List Offer → Data
offers_data offers = array (items_of (map offer_data offers))

-- the text of a state of an evaluation: its word, and the step where it has one
abbrev pub state_text : State → List ℕ
state_text (At step) = codes "at " ++ decimal step
state_text (Seek step) = codes "seek " ++ decimal step
state_text (Test step) = codes "test " ++ decimal step
state_text Whole = codes "whole"

-- the text of a state as a value
abbrev pub state_data : State → Data
state_data state = string (state_text state)

-- states, in their order
abbrev pub states_data : List State → Data
states_data states = array (items_of (map state_data states))

-- these members, in their order
abbrev pub members_of : List (List ℕ × Data) → Members
members_of [] = no_members
members_of (f ∷ fs) = member f.0 f.1 (members_of fs)

-- an object with these members, in their order
abbrev pub row_data : List (List ℕ × Data) → Data
row_data row = object (members_of row)

-- what is written for a field
abbrev pub field_data : Field → Data
field_data (Number n) = number_data n
field_data (Text text) = string text.now
field_data (Boolean b) = boolean b
field_data (Items items) = items_data items.now
field_data (Name name) = string (name_text name.now)
field_data (Cites cites) = cites_data cites.now
field_data (Offers offers) = offers_data offers.now
field_data (States states) = states_data states.now

-- the fields of a row, each with its key
abbrev pub fields_of : List (Bor (List ℕ) × Field) → List (List ℕ × Data)
fields_of row = map (λ f. (f.0.now, field_data f.1)) row
