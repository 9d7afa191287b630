-- Which answers are allowed: what an answer cites was so, and its items are those of the document that it cites.
use Rattle.std.specs.Prelude.{◌≡◌, ◌↔◌, ℕ, ◌≤◌, Bool, true, List, [], ◌∷◌, map, find, All, Option, option_map}
use Rattle.std.specs.Option.{option_map_or}
use Rattle.std.specs.Cmp.Lexicographic.{pointwise}
use Rattle.iris_base.specs.declared.name.Label.{Label}
use Rattle.iris_base.specs.declared.cite.Cite.{Cite}
use Rattle.iris_base.specs.NameOrder.{label_eq}
use Rattle.iris_tree.specs.Universe.{Node}
use Rattle.iris_tree.specs.Document.{with_locals}
use Rattle.iris_tree.specs.declared.item.Item.{Item}
use Rattle.iris_json.specs.declared.out.Out.{Out}
use Rattle.iris_json.specs.declared.out.Out.TheVariants as outs
use Rattle.iris_xpath.specs.Syntax.{Syntax}
use Rattle.iris_xpath.specs.Looks.{full_names}
use Rattle.iris_book.specs.Book as book
use Rattle.iris_book.specs.Book.{History, update_count, value_at, today}
use Rattle.iris_cli.specs.declared.event.Event.{Event}
use Rattle.iris_cli.specs.declared.event.Event.TheVariants as events
use Rattle.iris_cli.specs.declared.event.Sent.{Sent}
use Rattle.iris_cli.specs.declared.event.Sent.TheVariants as sent
use Rattle.iris_cli.specs.declared.session.Posted.{Posted}
use Rattle.iris_cli.specs.LineSays.{LineSays}
use Rattle.iris_cli.specs.Run.{SiteState, World, items_of_query, delivered, after_delivery, after, Starts}

-- ---- what cites tell

-- the version that these cites tell of a node, where one of them is of it
abbrev pub cited_version : List Cite → List Label → Option ℕ
cited_version cites name = option_map (λ c. c.version) (find (λ c. pointwise label_eq c.name name) cites)

-- that version, or the node's newest where no cite is of it
abbrev pub version_by : History → List Cite → List Label → ℕ
version_by h cites name = option_map_or (λ version. version) (cited_version cites name) (update_count h name)

-- the document in which each cited node has the value of its cited version, and each other node its newest value
abbrev pub document_of_cites : History → List Cite → Node
document_of_cites h cites = with_locals h.start (λ name old. option_map_or (λ local. local) (value_at h name (version_by h cites name)) old)

-- ---- an answer

-- An answer to a query is allowed at this moment.
-- Each cited version was held at its stamp, which is not after the moment.
-- In the document of the cites, the cited nodes are those that the query looks into, and the items are those that it selects.
-- The answer says that it is the newest exactly where each cited version is, and then that document is today's.
pub record IsAllowed (h : History) (now : ℕ) (query : Syntax) (items : List Item) (cites : List Cite) (newest_only : Bool) : Type 0 where
  pub held : All (λ c. book.HadVersion h c.name c.version c.stamp) cites
  pub past : All (λ c. c.stamp ≤ now) cites
  pub names_are : map (λ c. c.name) cites ≡ full_names (document_of_cites h cites) query
  pub items_are : items ≡ items_of_query (document_of_cites h cites) query
  pub newest_is : (newest_only ≡ true) ↔ All (λ c. c.version ≡ update_count h c.name) cites
  pub today_is : newest_only ≡ true → document_of_cites h cites ≡ today h

-- this is an allowed answer to the query of that request
pub record IsAnswer (h : History) (now request : ℕ) (query : Syntax) (out : Out) : Type 0 where
  pub items : List Item
  pub cites : List Cite
  pub newest_only : Bool
  pub out_is : out ≡ outs.Answer items cites newest_only request
  pub allowed : IsAllowed h now query items cites newest_only

-- ---- along a run

-- the line that delivers a query is an allowed answer, by what is held as it comes
abbrev pub DeliversAllowed : SiteState → ℕ → Sent → Type 0
DeliversAllowed s request (sent.Query query) = IsAnswer s.history s.now request query (delivered s request (sent.Query query))
DeliversAllowed s request (sent.Update update) = Unit {0}

-- the same of deliveries one after another
abbrev pub AllDeliverAllowed : SiteState → List Posted → Type 0
AllDeliverAllowed s [] = Unit {0}
AllDeliverAllowed s (p ∷ ps) = DeliversAllowed s p.request p.sent × AllDeliverAllowed (after_delivery s p.request p.sent) ps

-- each answer that an event brings about is allowed
abbrev pub BringsAllowed : World → Event → Type 0
BringsAllowed w (events.Post p) = Unit {0}
BringsAllowed w (events.Audit query) = Unit {0}
BringsAllowed w (events.BadQuery why) = Unit {0}
BringsAllowed w (events.Now at) = Unit {0}
BringsAllowed w events.Settle = AllDeliverAllowed w.site w.posted

-- each answer that these lines bring about is allowed
abbrev pub AnswersAllowed : World → List (List ℕ) → Type 0
AnswersAllowed w [] = Unit {0}
AnswersAllowed w (line ∷ lines) = (event : Event) → LineSays w.site.kinds line event → BringsAllowed w event × AnswersAllowed (after w event) lines

-- Each answer that the lines of a script bring about, the first of them the city line, is allowed, by what the agent holds as its query is delivered.
abbrev pub ScriptAllowed : List (List ℕ) → Type 0
ScriptAllowed [] = Unit {0}
ScriptAllowed (city ∷ lines) = (start : World) → Starts city start → AnswersAllowed start lines
