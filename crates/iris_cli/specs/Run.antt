-- The run of a script over a city of one agent: which lines each line of the script brings about.
use Rattle.std.specs.Prelude.{◌≡◌, ℕ, ◌+◌, Bool, true, nat_le, nat_lt, is_some, if◌then◌else◌, List, [], ◌∷◌, ◌++◌, map, length, Option, Some, None, Result, Ok, Err, refl}
use Rattle.std.specs.List.{flat_map}
use Rattle.std.specs.Coded.{Coded, code_by, coded×, coded_list, coded_ℕ}
use Rattle.std.specs.Option.{option_map_or}
use Rattle.iris_base.specs.declared.name.Label.{Label}
use Rattle.iris_base.specs.declared.cite.Cite.{Cite}
use Rattle.iris_tree.specs.declared.local.Local.{Local}
use Rattle.iris_tree.specs.Universe.{Node, node_at}
use Rattle.iris_tree.specs.declared.item.Item.{Item}
use Rattle.iris_tree.specs.Items.{items_at}
use Rattle.iris_json.specs.declared.city.City.{City}
use Rattle.iris_json.specs.declared.out.Out.{Out}
use Rattle.iris_json.specs.declared.out.Out.TheVariants as outs
use Rattle.iris_json.specs.CityLine.{ReadsCity}
use Rattle.iris_json.specs.Out.{out_text}
use Rattle.iris_xpath.specs.Syntax.{Syntax}
use Rattle.iris_xpath.specs.Meaning.{selected}
use Rattle.iris_xpath.specs.Looks.{full_names}
use Rattle.iris_book.specs.declared.entry.Entry.{Entry}
use Rattle.iris_book.specs.declared.entry.Entry.TheVariants as entries
use Rattle.iris_book.specs.Book.{History, with_entry, latest, value_at, today, last_number_at}
use Rattle.iris_cli.specs.declared.event.Event.{Event}
use Rattle.iris_cli.specs.declared.event.Event.TheVariants as events
use Rattle.iris_cli.specs.declared.event.Sent.{Sent}
use Rattle.iris_cli.specs.declared.event.Sent.TheVariants as sent
use Rattle.iris_cli.specs.declared.event.SentUpdate.{SentUpdate}
use Rattle.iris_cli.specs.declared.session.Posted.{Posted}
use Rattle.iris_cli.specs.Lines.{ended}
use Rattle.iris_cli.specs.Served.{IsServedCity}
use Rattle.iris_cli.specs.LineSays.{LineSays}
use Rattle.iris_cli.specs.CityChanges.{changes_in_city}

-- what the one agent holds: the kinds of the city, what was accepted since the start, and the present moment
pub record SiteState : Type 0 where
  pub kinds : List (List ℕ)
  pub history : History
  pub now : ℕ

-- how proofs store that
abbrev pub site_code : Coded Node → Coded Entry → Coded SiteState
site_code document entry =
    code_by (List (List ℕ) × ((Node × List Entry) × ℕ)) (coded× (coded_list (coded_list coded_ℕ)) (coded× (coded× document (coded_list entry)) coded_ℕ))
    (λ s. (s.kinds, ((s.history.start, s.history.entries), s.now)))
    (λ p. record { kinds = p.0; history = record { start = p.1.0.0; entries = p.1.0.1 }; now = p.1.1 })
    (λ _. refl)

-- a city under a script: its agent, what that holds, what is posted and not yet delivered, in the order of posting, and how many posts and requests were made
pub record World : Type 0 where
  pub agent : List ℕ
  pub site : SiteState
  pub posted : List Posted
  pub posts : ℕ
  pub requests : ℕ

-- ---- lines of the run

-- the bytes of a line of the run, with its LF
abbrev pub out_line : Out → List ℕ
out_line out = ended (out_text out)

-- the bytes of lines, one after another
abbrev pub out_lines : List Out → List ℕ
out_lines outs = flat_map out_line outs

-- ---- answers

-- the items at the places that a query selects in a document, in their order
abbrev pub items_of_query : Node → Syntax → List Item
items_of_query document query = items_at document (selected document query)

-- how many updates a node has had
abbrev pub version_of : SiteState → List Label → ℕ
version_of s name = option_map_or (λ version. version) (latest s.history name) 0

-- a node's newest value, at the present moment
abbrev pub newest_cite : SiteState → List Label → Cite
newest_cite s name = record { name = name; version = version_of s name; stamp = s.now }

-- An answer has the items that today's document has for the query, and cites the names of the nodes that were looked into, in the order of names, each once.
abbrev pub answer_out : SiteState → ℕ → Syntax → Out
answer_out s request query = outs.Answer (items_of_query (today s.history) query) (map (newest_cite s) (full_names (today s.history) query)) true request

-- an audit has the items of an answer, and cites nothing
abbrev pub audit_out : SiteState → ℕ → Syntax → Out
audit_out s request query = outs.Audit (items_of_query (today s.history) query) request

-- ---- updates

-- the number of the last accepted update of that node, 0 where there is none
abbrev pub last_number : SiteState → List Label → ℕ
last_number s name = last_number_at s.history name

-- local information after changes, or what is told of the change that fails
abbrev pub or_bad_change : ℕ → Result Local ℕ → Result Local Out
or_bad_change request (Ok local) = Ok local
or_bad_change request (Err at) = Err (outs.BadChange at request)

-- what an update makes of a node's value, where there is one, and of the number of its last update; or what is told where it is refused: no node is there, its number is not greater, or a change fails
abbrev pub made_of : List (List ℕ) → ℕ → Option Local → ℕ → SentUpdate → Result Local Out
made_of kinds request None last update = Err (outs.NoSuchNode (Some request))
made_of kinds request (Some local) last update = if nat_le update.no last then Err (outs.Old last request) else or_bad_change request (changes_in_city kinds local update.changes)

-- what an update makes of its node's newest value, or what is told where it is refused
abbrev pub made_by : SiteState → ℕ → SentUpdate → Result Local Out
made_by s request update = made_of s.kinds request (value_at s.history update.name (version_of s update.name)) (last_number s update.name) update

abbrev pub update_out : SiteState → ℕ → SentUpdate → Result Local Out → Out
update_out s request update (Ok local) = outs.Accepted (version_of s update.name + 1) request
update_out s request update (Err refusal) = refusal

abbrev pub after_update : SiteState → SentUpdate → Result Local Out → SiteState
after_update s update (Ok local) = record { kinds = s.kinds; history = with_entry s.history (entries.Updated update.name update.no update.changes local s.now); now = s.now }
after_update s update (Err refusal) = s

-- ---- deliveries

-- the line of a delivery
abbrev pub delivered : SiteState → ℕ → Sent → Out
delivered s request (sent.Query query) = answer_out s request query
delivered s request (sent.Update update) = update_out s request update (made_by s request update)

-- what it leaves
abbrev pub after_delivery : SiteState → ℕ → Sent → SiteState
after_delivery s request (sent.Query query) = s
after_delivery s request (sent.Update update) = after_update s update (made_by s request update)

-- the lines of deliveries one after another, and what they leave
abbrev pub all_delivered : SiteState → List Posted → List Out
all_delivered s [] = []
all_delivered s (p ∷ ps) = delivered s p.request p.sent ∷ all_delivered (after_delivery s p.request p.sent) ps

abbrev pub after_all : SiteState → List Posted → SiteState
after_all s [] = s
after_all s (p ∷ ps) = after_all (after_delivery s p.request p.sent) ps

-- ---- what a line brings about, and what it leaves

-- the post of a query or an update, or what is told where the update's node is none
abbrev pub post_out : World → Sent → Out
post_out w (sent.Query query) = outs.Query w.posts w.requests w.agent
post_out w (sent.Update update) = if is_some (node_at (today w.site.history) update.name) then outs.Update w.posts w.requests w.agent else outs.NoSuchNode (Some w.requests)

abbrev pub is_posted : World → Sent → Bool
is_posted w (sent.Query query) = true
is_posted w (sent.Update update) = is_some (node_at (today w.site.history) update.name)

-- the lines that an event brings about
abbrev pub brings : World → Event → List Out
brings w (events.Post s) = post_out w s ∷ []
brings w (events.Audit query) = audit_out w.site w.requests query ∷ []
brings w (events.BadQuery why) = outs.BadQuery why w.requests ∷ []
brings w (events.Now at) = if nat_lt at w.site.now then outs.BackInTime w.site.now ∷ [] else []
brings w events.Settle = all_delivered w.site w.posted ++ outs.Settled (length w.posted) ∷ []

-- with one request more, and one post more if it was posted
abbrev pub after_post : World → Sent → World
after_post w s = if is_posted w s
    then record w { posted = w.posted ++ record { request = w.requests; sent = s } ∷ []; posts = w.posts + 1; requests = w.requests + 1 }
    else record w { requests = w.requests + 1 }

abbrev pub after : World → Event → World
after w (events.Post s) = after_post w s
after w (events.Audit query) = record w { requests = w.requests + 1 }
after w (events.BadQuery why) = record w { requests = w.requests + 1 }
after w (events.Now at) = if nat_lt at w.site.now then w else record w { site = record { kinds = w.site.kinds; history = w.site.history; now = at } }
after w events.Settle = record w { site = after_all w.site w.posted; posted = [] }

-- ---- lines one after another

-- what is written by lines after the first, and what they leave
abbrev pub Runs : World → List (List ℕ) → List ℕ → World → Type 0
Runs w [] written now = (written ≡ []) × (now ≡ w)
Runs w (line ∷ lines) written now = (event : Event) × (more : List ℕ) × LineSays w.site.kinds line event × Runs (after w event) lines more now × (written ≡ out_lines (brings w event) ++ more)

-- the city of a city line, which is served, with nothing accepted and nothing posted, at the moment 0
pub record Starts (line : List ℕ) (w : World) : Type 0 where
  pub city : City
  pub reads : ReadsCity line city
  pub served : IsServedCity city w.agent
  pub kinds_are : w.site.kinds ≡ city.kinds
  pub start_is : w.site.history.start ≡ city.tree
  pub nothing_accepted : w.site.history.entries ≡ []
  pub begins : w.site.now ≡ 0
  pub nothing_posted : w.posted ≡ []
  pub no_posts : w.posts ≡ 0
  pub no_requests : w.requests ≡ 0

-- the lines of a script from its first on, and the bytes that they write
abbrev pub RunsScript : List ℕ → List (List ℕ) → List ℕ → World → Type 0
RunsScript city lines written now = (start : World) × Starts city start × Runs start lines written now
