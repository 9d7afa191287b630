-- Messages between agents, and what the protocol reads of them.
use Rattle.std.specs.Prelude.{ℕ, Bool, false, nat_eq, if◌then◌else◌, List, sum_by, Option, Some, None, option_map}
use Rattle.std.specs.List.{filter_map, list_any}
use Rattle.iris_base.specs.declared.name.Label.{Label}
use Rattle.iris_migrate.specs.declared.key.Key.{Key}
use Rattle.iris_migrate.specs.declared.key.Key.TheVariants as key
use Rattle.iris_migrate.specs.declared.message.Message.{Message}
use Rattle.iris_migrate.specs.declared.message.Message.TheVariants.{Query, Ask, Reply, Update, Handover}

-- ---- what a message says to the holder of its node

-- what is wanted of the holder of a node: that it answers a client's query, accepts a client's update of that number, or replies to an agent's ask
pub data Word : Type 0 where
  answer : (request : ℕ) → Word
  accept : (request number : ℕ) → Word
  reply_to : (ask : ℕ) → (from : List ℕ) → Word

-- what a message wants of the holder of its node; a reply and a handover want nothing
abbrev pub word_of : Message → Option Word
word_of (Query request query name epoch floor) = Some (answer request)
word_of (Ask ask from query start epoch floor) = Some (reply_to ask from)
word_of (Reply ask pieces) = None
word_of (Update request name epoch number changes) = Some (accept request number)
word_of (Handover handover) = None

-- the node of a message; a reply has none
abbrev pub node_of : Message → Option (List Label)
node_of (Query request query name epoch floor) = Some name
node_of (Ask ask from query start epoch floor) = Some start.name
node_of (Reply ask pieces) = None
node_of (Update request name epoch number changes) = Some name
node_of (Handover handover) = Some handover.name

-- the epoch of its node that the sender read, or that of the move; a reply has none
abbrev pub epoch_of : Message → Option ℕ
epoch_of (Query request query name epoch floor) = Some epoch
epoch_of (Ask ask from query start epoch floor) = Some epoch
epoch_of (Reply ask pieces) = None
epoch_of (Update request name epoch number changes) = Some epoch
epoch_of (Handover handover) = Some handover.epoch

-- ---- what a message belongs to

-- whether both are the same request, or the same ask
abbrev pub key_eq : Key → Key → Bool
key_eq (key.Request r) (key.Request s) = nat_eq r s
key_eq (key.Request r) (key.Ask i) = false
key_eq (key.Ask i) (key.Request r) = false
key_eq (key.Ask i) (key.Ask j) = nat_eq i j

-- the request or the ask of what is wanted
abbrev pub word_key : Word → Key
word_key (answer request) = key.Request request
word_key (accept request number) = key.Request request
word_key (reply_to ask from) = key.Ask ask

-- the request or the ask of a message that wants something of the holder of its node
abbrev pub key_of : Message → Option Key
key_of message = option_map word_key (word_of message)

-- those of several messages, in their order
abbrev pub keys_in : List Message → List Key
keys_in messages = filter_map key_of messages

-- whether a message of that request or that ask is among these
abbrev pub is_among : Key → List Message → Bool
is_among key messages = list_any (key_eq key) (keys_in messages)

-- 1 where it is that ask, else 0
abbrev pub one_of_ask : ℕ → Key → ℕ
one_of_ask ask (key.Request r) = 0
one_of_ask ask (key.Ask i) = if nat_eq ask i then 1 else 0

-- how many of these messages are that ask
abbrev pub asks_among : ℕ → List Message → ℕ
asks_among ask messages = sum_by (one_of_ask ask) (keys_in messages)
