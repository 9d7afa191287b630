-- The lines of a run as JSON.
use Rattle.std.specs.Prelude.{ℕ, Bool, true, false, ◌&&◌, List, [], ◌∷◌, codes, Option, Some, None}
use Rattle.std.specs.Cmp.Lexicographic.{slice_cmp}
use Rattle.std.specs.Ordering.{nat_cmp, is_lt}
use Rattle.serde_json.specs.Data.{Data, boolean, string}
use Rattle.serde_json.specs.Written.{compact_text}
use Rattle.iris_base.specs.declared.cite.Cite.{Cite}
use Rattle.iris_base.specs.declared.name.Label.{Label}
use Rattle.iris_base.specs.declared.state.State.{State}
use Rattle.iris_base.specs.NameText.{name_text}
use Rattle.iris_tree.specs.declared.item.Item.{Item}
use Rattle.iris_fragment.specs.declared.piece.Level.{Level}
use Rattle.iris_fragment.specs.declared.piece.Level.TheVariants.{Ids, Full}
use Rattle.iris_fragment.specs.declared.status.Status.{Status}
use Rattle.iris_fragment.specs.declared.status.Status.TheVariants.{Owned, Complete, IdComplete, Incomplete}
use Rattle.iris_json.specs.declared.find.Offer.{Offer}
use Rattle.iris_json.specs.declared.summary.Summary.{Summary}
use Rattle.iris_json.specs.declared.out.Why.{Why}
use Rattle.iris_json.specs.declared.out.Why.TheVariants as whys
use Rattle.iris_json.specs.declared.out.Which.{Which}
use Rattle.iris_json.specs.declared.out.Which.TheVariants as limits
use Rattle.iris_json.specs.declared.out.Out.{Out}
use Rattle.iris_json.specs.declared.out.Out.TheVariants as out
use Rattle.iris_json.specs.declared.out.QueryFault.{QueryFault}
use Rattle.iris_json.specs.declared.out.QueryFault.TheVariants.{Syntax, Outside, TooLarge}
use Rattle.iris_json.specs.declared.out.TheConstants.{BAD_SCRIPT, PAST_LIMIT}
use Rattle.iris_json.specs.Render.{items_data}
use Rattle.iris_json.specs.Rows.{number_data, cites_data, offers_data, states_data, row_data}

-- ---- words

-- the word for what is wrong with a script
abbrev pub why_word : Why → List ℕ
why_word whys.Empty = codes "empty"
why_word whys.Truncated = codes "truncated"
why_word whys.NotJson = codes "not-json"
why_word whys.Shape = codes "shape"
why_word whys.Kinds = codes "kinds"
why_word whys.Agents = codes "agents"
why_word whys.Capacities = codes "caps"
why_word whys.Label = codes "label"
why_word whys.Twin = codes "twin"
why_word whys.Attribute = codes "attr"
why_word whys.Plain = codes "plain"
why_word whys.Place = codes "place"
why_word whys.Zone = codes "zone"
why_word whys.Name = codes "name"
why_word whys.Number = codes "number"
why_word whys.Change = codes "change"

-- the word for a limit
abbrev pub which_word : Which → List ℕ
which_word limits.Line = codes "line"
which_word limits.Script = codes "script"
which_word limits.Lines = codes "lines"
which_word limits.Nodes = codes "nodes"
which_word limits.Depth = codes "depth"
which_word limits.Children = codes "children"
which_word limits.Attributes = codes "attributes"
which_word limits.Plain = codes "plain"
which_word limits.PlainDepth = codes "plain-depth"
which_word limits.Local = codes "local"
which_word limits.Posts = codes "posts"
which_word limits.PostBytes = codes "post-bytes"
which_word limits.Entries = codes "entries"
which_word limits.EntryBytes = codes "entry-bytes"

-- the word for how much of a node an ask wants
abbrev pub level_word : Level → List ℕ
level_word Ids = codes "ids"
level_word Full = codes "full"

-- the word for what is held of a node
abbrev pub status_word : Status → List ℕ
status_word Owned = codes "owned"
status_word Complete = codes "complete"
status_word IdComplete = codes "id-complete"
status_word Incomplete = codes "incomplete"

-- the word for what is held of a node, if anything is
abbrev pub held_word : Option Status → List ℕ
held_word None = codes "none"
held_word (Some status) = status_word status

-- ---- posts

-- a post of a client's: what is posted, its number, the request's, and the agent that it goes to
abbrev pub post_row : List ℕ → ℕ → ℕ → List ℕ → List (List ℕ × Data)
post_row kind post request to =
    (codes "kind", string kind) ∷ (codes "post", number_data post) ∷ (codes "request", number_data request) ∷ (codes "to", string to) ∷ []

-- an ask: its number, how much of which node it wants, and the states of the evaluation there
abbrev pub ask_row : ℕ → Level → List Label → ℕ → List State → List ℕ → List (List ℕ × Data)
ask_row ask level name post states to =
    (codes "ask", number_data ask) ∷ (codes "kind", string (codes "ask")) ∷ (codes "level", string (level_word level)) ∷ (codes "name", string (name_text name))
    ∷ (codes "post", number_data post) ∷ (codes "states", states_data states) ∷ (codes "to", string to) ∷ []

-- a reply: the ask's number, and how many pieces it has
abbrev pub reply_row : ℕ → ℕ → ℕ → List ℕ → List (List ℕ × Data)
reply_row ask pieces post to =
    (codes "ask", number_data ask) ∷ (codes "kind", string (codes "reply")) ∷ (codes "pieces", number_data pieces) ∷ (codes "post", number_data post)
    ∷ (codes "to", string to) ∷ []

-- a handover of a node
abbrev pub handover_row : ℕ → List Label → ℕ → List ℕ → List (List ℕ × Data)
handover_row epoch name post to =
    (codes "epoch", number_data epoch) ∷ (codes "kind", string (codes "handover")) ∷ (codes "name", string (name_text name)) ∷ (codes "post", number_data post)
    ∷ (codes "to", string to) ∷ []

-- ---- outcomes

-- an answer: its items, what it rests on, and whether that is the newest
abbrev pub answer_row : List Item → List Cite → Bool → ℕ → List (List ℕ × Data)
answer_row answer cites newest request =
    (codes "answer", items_data answer) ∷ (codes "cites", cites_data cites) ∷ (codes "newest", boolean newest) ∷ (codes "request", number_data request) ∷ []

-- offers: what they rest on, whether that is the newest, and the offers
abbrev pub offers_row : List Cite → Bool → List Offer → ℕ → List (List ℕ × Data)
offers_row cites newest offers request =
    (codes "cites", cites_data cites) ∷ (codes "newest", boolean newest) ∷ (codes "offers", offers_data offers) ∷ (codes "request", number_data request) ∷ []

-- one thing that is told of a request
abbrev pub told_row : List ℕ → Data → ℕ → List (List ℕ × Data)
told_row key told request = (key, told) ∷ (codes "request", number_data request) ∷ []

-- one count
abbrev pub count_row : List ℕ → ℕ → List (List ℕ × Data)
count_row key count = (key, number_data count) ∷ []

-- the owner of a node, and since which epoch it is
abbrev pub owner_row : List ℕ → ℕ → List Label → List (List ℕ × Data)
owner_row agent epoch name = (codes "agent", string agent) ∷ (codes "epoch", number_data epoch) ∷ (codes "name", string (name_text name)) ∷ []

-- the counts of a world
abbrev pub summary_row : Summary → List (List ℕ × Data)
summary_row s =
    (codes "accepted", number_data s.accepted) ∷ (codes "answered", number_data s.answered) ∷ (codes "asks", number_data s.asks)
    ∷ (codes "bytes", number_data s.bytes) ∷ (codes "moves", number_data s.moves) ∷ (codes "open", number_data s.opened)
    ∷ (codes "posts", number_data s.posts) ∷ (codes "refused", number_data s.refused) ∷ []

-- ---- refusals

-- a request that was refused
abbrev pub refused_row : List ℕ → ℕ → List (List ℕ × Data)
refused_row why request = told_row (codes "refused") (string why) request

-- a request that was refused, with the one thing that tells more
abbrev pub refused_with_row : List ℕ → Data → List ℕ → ℕ → List (List ℕ × Data)
refused_with_row key told why request = (key, told) ∷ refused_row why request

-- what is refused and is no request, with the one number that tells more
abbrev pub alone_row : List ℕ → ℕ → List ℕ → List (List ℕ × Data)
alone_row key told why = (key, number_data told) ∷ (codes "refused", string why) ∷ []

-- a node that there is not, with the number of the request, where there is a request
abbrev pub no_node_row : Option ℕ → List (List ℕ × Data)
no_node_row None = (codes "refused", string (codes "no such node")) ∷ []
no_node_row (Some request) = refused_row (codes "no such node") request

-- a query that was refused: where its fault begins, if that has a place, and what the fault is
abbrev pub bad_query_row : QueryFault → ℕ → List (List ℕ × Data)
bad_query_row (Syntax at) request =
    (codes "at", number_data at) ∷ (codes "refused", string (codes "bad query")) ∷ (codes "request", number_data request) ∷ (codes "why", string (codes "syntax")) ∷ []
bad_query_row (Outside at what) request =
    (codes "at", number_data at) ∷ (codes "refused", string (codes "bad query")) ∷ (codes "request", number_data request) ∷ (codes "what", string what) ∷ (codes "why", string (codes "outside")) ∷ []
bad_query_row (TooLarge which) request =
    (codes "refused", string (codes "bad query")) ∷ (codes "request", number_data request) ∷ (codes "which", string which) ∷ (codes "why", string (codes "too large")) ∷ []

-- a node of which an agent holds no copy, and what it holds of it
abbrev pub not_held_row : Option Status → ℕ → List (List ℕ × Data)
not_held_row status request =
    (codes "refused", string (codes "not held")) ∷ (codes "request", number_data request) ∷ (codes "status", string (held_word status)) ∷ []

-- ---- the end of a run

-- at a line of the script, and at a node of the city line, where it is one's fault
abbrev pub ended_row : ℕ → Why → Option ℕ → List (List ℕ × Data)
ended_row line why None = (codes "ended", number_data BAD_SCRIPT) ∷ (codes "line", number_data line) ∷ (codes "why", string (why_word why)) ∷ []
ended_row line why (Some node) =
    (codes "ended", number_data BAD_SCRIPT) ∷ (codes "line", number_data line) ∷ (codes "node", number_data node) ∷ (codes "why", string (why_word why)) ∷ []

-- at a limit
abbrev pub limit_row : ℕ → Which → List (List ℕ × Data)
limit_row count which = (codes "count", number_data count) ∷ (codes "ended", number_data PAST_LIMIT) ∷ (codes "which", string (which_word which)) ∷ []

-- ---- a line: its keys, in the order of their bytes, and what it has at each

abbrev pub out_row : Out → List (List ℕ × Data)
out_row (out.Query post request to) = post_row (codes "query") post request to
out_row (out.Update post request to) = post_row (codes "update") post request to
out_row (out.Ask ask level name post states to) = ask_row ask level name post states to
out_row (out.Reply ask pieces post to) = reply_row ask pieces post to
out_row (out.Handover epoch name post to) = handover_row epoch name post to
out_row (out.Answer answer cites newest request) = answer_row answer cites newest request
out_row (out.Offers cites newest offers request) = offers_row cites newest offers request
out_row (out.Audit audit request) = told_row (codes "audit") (items_data audit) request
out_row (out.Accepted accepted request) = told_row (codes "accepted") (number_data accepted) request
out_row (out.Gave gave request) = told_row (codes "gave") (number_data gave) request
out_row (out.Evicted evicted request) = told_row (codes "evicted") (string (status_word evicted)) request
out_row (out.Settled settled) = count_row (codes "settled") settled
out_row (out.Forgot forgot) = count_row (codes "forgot") forgot
out_row (out.Owner agent epoch name) = owner_row agent epoch name
out_row (out.Summary summary) = summary_row summary
out_row (out.BackInTime now) = alone_row (codes "now") now (codes "back in time")
out_row (out.BadQuery why request) = bad_query_row why request
out_row (out.NoSuchNode request) = no_node_row request
out_row (out.NoSuchAgent request) = refused_row (codes "no such agent") request
out_row (out.SameOwner request) = refused_row (codes "same owner") request
out_row (out.IsOwned request) = refused_row (codes "is owned") request
out_row (out.Unkept request) = refused_row (codes "unkept") request
out_row (out.Old last request) = refused_with_row (codes "last") (number_data last) (codes "old") request
out_row (out.BadChange at request) = refused_with_row (codes "at") (number_data at) (codes "bad change") request
out_row (out.InTransit epoch request) = refused_with_row (codes "epoch") (number_data epoch) (codes "in transit") request
out_row (out.Busy opened request) = refused_with_row (codes "open") (number_data opened) (codes "busy") request
out_row (out.NotHeld status request) = not_held_row status request
out_row (out.NoSuchMessage posted) = alone_row (codes "posted") posted (codes "no such message")
out_row (out.BadTariff name request) = refused_with_row (codes "name") (string (name_text name)) (codes "bad tariff") request
out_row (out.Ended line why node) = ended_row line why node
out_row (out.Limit count which) = limit_row count which

-- a line as a value
abbrev pub out_data : Out → Data
out_data line = row_data (out_row line)

-- the text of a line, without its LF
abbrev pub out_text : Out → List ℕ
out_text line = compact_text (out_data line)

-- whether these keys stand in the order of their bytes, none of them twice
abbrev pub keys_rise : List (List ℕ × Data) → Bool
keys_rise [] = true
keys_rise (f ∷ []) = true
keys_rise (f ∷ g ∷ fs) = is_lt (slice_cmp nat_cmp f.0 g.0) && keys_rise (g ∷ fs)

-- ---- for those who write

-- whether a line is that of a post, which is 0, an outcome, a refusal, or the end of a run, which is 3
abbrev pub place_of : Out → ℕ
place_of (out.Query post request to) = 0
place_of (out.Update post request to) = 0
place_of (out.Ask ask level name post states to) = 0
place_of (out.Reply ask pieces post to) = 0
place_of (out.Handover epoch name post to) = 0
place_of (out.Answer answer cites newest request) = 1
place_of (out.Offers cites newest offers request) = 1
place_of (out.Audit audit request) = 1
place_of (out.Accepted accepted request) = 1
place_of (out.Gave gave request) = 1
place_of (out.Evicted evicted request) = 1
place_of (out.Settled settled) = 1
place_of (out.Forgot forgot) = 1
place_of (out.Owner agent epoch name) = 1
place_of (out.Summary summary) = 1
place_of (out.BackInTime now) = 2
place_of (out.BadQuery why request) = 2
place_of (out.NoSuchNode request) = 2
place_of (out.NoSuchAgent request) = 2
place_of (out.SameOwner request) = 2
place_of (out.IsOwned request) = 2
place_of (out.Unkept request) = 2
place_of (out.Old last request) = 2
place_of (out.BadChange at request) = 2
place_of (out.InTransit epoch request) = 2
place_of (out.Busy opened request) = 2
place_of (out.NotHeld status request) = 2
place_of (out.NoSuchMessage posted) = 2
place_of (out.BadTariff name request) = 2
place_of (out.Ended line why _) = 3
place_of (out.Limit count which) = 3
