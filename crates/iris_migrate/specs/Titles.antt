-- What an agent knows of the nodes that move, node by node.
use Rattle.std.specs.Prelude.{◌≡◌, ℕ, nat_lt, nat_eq, Bool, false, if◌then◌else◌, List, [], ◌∷◌, ◌++◌, All, sum_by, Option, Some, None, IsSome, unwrap_or, refl}
use Rattle.std.specs.List.{IsDistinct}
use Rattle.std.specs.Map.{lookup}
use Rattle.std.specs.Cmp.Lexicographic.{pointwise}
use Rattle.std.specs.Coded.{Coded, code_by, coded×, coded_ℕ, coded_list, coded_option}
use Rattle.indexmap.specs.IndexMap.{insert_entry}
use Rattle.iris_base.specs.declared.name.Label.{Label}
use Rattle.iris_base.specs.NameOrder.{label_eq}
use Rattle.iris_migrate.specs.declared.key.Key.{Key}
use Rattle.iris_migrate.specs.declared.direct.Direct.{Direct}
use Rattle.iris_migrate.specs.declared.direct.Direct.TheVariants as directed
use Rattle.iris_migrate.specs.declared.direct.Forward.{Forward}
use Rattle.iris_migrate.specs.declared.message.Message.{Message}
use Rattle.iris_migrate.specs.Messages.{node_of, key_of, keys_in, key_eq, is_among, asks_among}

-- ---- one node

-- what an agent knows of one node: the number of the last update that it accepted, where it owns the node; the last move by which it gave the node away; the greatest epoch of a handover that it took; and the parked messages, in the order of parking
pub record Seat : Type 0 where
  pub last : Option ℕ
  pub forward : Option Forward
  pub taken : ℕ
  pub parked : List Message

-- how proofs store it
abbrev pub seat_code : Coded Forward → Coded Message → Coded Seat
seat_code forward message =
    code_by ((Option ℕ × Option Forward) × (ℕ × List Message)) (coded× (coded× (coded_option coded_ℕ) (coded_option forward)) (coded× coded_ℕ (coded_list message)))
    (λ s. ((s.last, s.forward), (s.taken, s.parked)))
    (λ p. record { last = p.0.0; forward = p.0.1; taken = p.1.0; parked = p.1.1 })
    (λ _. refl)

-- nothing is known of the node
abbrev pub empty_seat : Seat
empty_seat = record { last = None; forward = None; taken = 0; parked = [] }

-- the agent owns the node, and accepted no update
abbrev pub owned_seat : Seat
owned_seat = record { last = Some 0; forward = None; taken = 0; parked = [] }

-- where a message of that epoch goes by the last move
abbrev pub direct_away : Option Forward → ℕ → Direct
direct_away None epoch = directed.Park
direct_away (Some forward) epoch = if nat_lt epoch forward.epoch then directed.Forward forward.to forward.epoch else directed.Park

abbrev pub direct_by : Option ℕ → Option Forward → ℕ → Direct
direct_by (Some last) forward epoch = directed.Serve
direct_by None forward epoch = direct_away forward epoch

-- what the agent does with a message of that epoch: it serves where it owns the node, forwards where it gave the node away by a move of a greater epoch, and else parks
abbrev pub direct : Seat → ℕ → Direct
direct seat epoch = direct_by seat.last seat.forward epoch

-- an update of that number is accepted
abbrev pub with_last : Seat → ℕ → Seat
with_last seat number = record seat { last = Some number }

-- the node is given away by a move of that epoch
abbrev pub given : Seat → List ℕ → ℕ → Seat
given seat to epoch = record seat { last = None; forward = Some (record { to = to; epoch = epoch }) }

-- a handover of that epoch is taken, and nothing is parked any more
abbrev pub took : Seat → ℕ → ℕ → Seat
took seat epoch last = record seat { last = Some last; taken = epoch; parked = [] }

-- a message is parked behind the others
abbrev pub with_parked : Seat → Message → Seat
with_parked seat message = record seat { parked = seat.parked ++ message ∷ [] }

-- whether a message of that request or that ask is parked
abbrev pub is_parked : Seat → Option Key → Bool
is_parked seat None = false
is_parked seat (Some key) = is_among key seat.parked

-- a message is parked, where none of its request or its ask is
abbrev pub parking : Seat → Message → Seat
parking seat message = if is_parked seat (key_of message) then seat else with_parked seat message

-- the messages that are parked for a node are of that node, each wants something of its holder, and no two belong to the same request or the same ask
pub record AreParked (name : List Label) (parked : List Message) : Type 0 where
  pub own : All (λ message. node_of message ≡ Some name) parked
  pub wanting : All (λ message. IsSome (key_of message)) parked
  pub once : IsDistinct key_eq (keys_in parked)

-- ---- the nodes by their names

-- names of nodes, each with what is known of the node
abbrev pub Seats : Type 0
Seats = List (List Label × Seat)

-- how proofs store them
abbrev pub seats_code : Coded Label → Coded Seat → Coded Seats
seats_code label seat = coded_list (coded× (coded_list label) seat)

-- what is noted of the node of that name, where something is
abbrev pub noted_at : Seats → List Label → Option Seat
noted_at seats name = lookup (pointwise label_eq name) seats

-- what an agent knows of the node of that name
abbrev pub seat_at : Seats → List Label → Seat
seat_at seats name = unwrap_or (noted_at seats name) empty_seat

-- there is a place for what is known of the node, so that taking it takes no memory
abbrev pub IsReady : Seats → List Label → Type 0
IsReady seats name = IsSome (noted_at seats name)

-- the node that a message is parked for
abbrev pub place_of : Message → List Label
place_of message = unwrap_or (node_of message) []

-- ---- for the code

-- with that known of the node of that name
abbrev pub with_seat : Seats → List Label → Seat → Seats
with_seat seats name seat = insert_entry (pointwise label_eq) seats name seat

-- how often that ask is parked
abbrev pub parked_asks : ℕ → Seats → ℕ
parked_asks ask seats = sum_by (λ e. asks_among ask e.1.parked) seats

-- how often that ask was counted
abbrev pub count_of : List (ℕ × ℕ) → ℕ → ℕ
count_of counts ask = unwrap_or (lookup (nat_eq ask) counts) 0

-- all is parked as it is to be, and the parked asks are counted
pub record AreTitles (seats : Seats) (counts : List (ℕ × ℕ)) : Type 0 where
  pub parked : All (λ e. AreParked e.0 e.1.parked) seats
  pub counted : (ask : ℕ) → count_of counts ask ≡ parked_asks ask seats
