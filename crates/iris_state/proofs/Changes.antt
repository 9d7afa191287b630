-- What the small changes of the parts of a city are, of the city.
use Rattle.std.proofs.Common.{◌≡◌, ℕ, suc, true, false, List, Option, Some, refl, ap, ◌∙◌}
use Rattle.std.specs.Prelude.{◌&&◌, option_map, nat_eq, nat_lt, if◌then◌else◌}
use Rattle.iris_base.specs.declared.cite.Cite.{Cite}
use Rattle.iris_route.specs.Titles.{Titles}
use Rattle.iris_book.specs.Book.{Recorded, with_entry}
use Rattle.iris_book.specs.declared.entry.Entry.{Entry}
use Rattle.iris_json.specs.declared.out.Out.{Out}
use Rattle.iris_migrate.specs.declared.message.Message.{Message}
use Rattle.iris_posts.specs.declared.post.Post.{Post as Sending}
use Rattle.iris_posts.specs.Posts.{Queue, kept_at, post_at, is_over, is_seen}
use Rattle.iris_agent.specs.Tables.{Holdings, at_number}
use Rattle.iris_outbox.specs.Outbox.{Outgoing}
use Rattle.iris_outbox.specs.Requests.{is_closed}
use Rattle.iris_protocol.specs.Table.{AgentId}
use Rattle.iris_runs.specs.Happenings.{advanced, counted}
use Rattle.iris_runs.specs.Worlds.{posting, marked, closes}
use Rattle.iris_state.specs.Agents.{agent_by}
use Rattle.iris_state.specs.Whole.{Whole, begun, sent_of, world_of}

-- a request has its outcome
pub closed_one : (old new : Whole) (request : ℕ) (lines : List Out)
    → new ≡ record old { outbox = record old.outbox { lines = lines }; requests = new.requests }
    → new.requests.made ≡ old.requests.made
    → ((other : ℕ) → is_closed new.requests other ≡ at_number (is_closed old.requests) request true other)
    → world_of new ≡ closes (world_of old) request
unfolding world_of
closed_one old new request lines rest made closed = ap world_of rest ∙ (λ i. record (world_of old) { closed = λ s. closed s i; requests = made i })

-- an answer is entered into the book
pub entered_one : (old new : Whole) (entry : Entry) (cites : List (List Cite))
    → new ≡ record old { outbox = record old.outbox { cites = cites }; book = new.book }
    → new.book.history ≡ with_entry old.book.history entry
    → world_of new ≡ record (world_of old) { history = with_entry old.book.history entry }
unfolding world_of
entered_one old new entry cites rest history = ap world_of rest ∙ (λ i. record (world_of old) { agent = agent_by (history i).start old.agents; history = history i })

-- a table of posts, with another one at a number
sent_at : (table : ℕ → Option Sending) (number : ℕ) (post : Sending) (other : ℕ) → option_map sent_of (at_number table number (Some post) other) ≡ at_number (λ k. option_map sent_of (table k)) number (Some (sent_of post)) other
sent_at table number post other = elim (nat_eq other number) as (λ b. option_map sent_of (if b then Some post else table other) ≡ (if b then Some (sent_of post) else option_map sent_of (table other))) [ true ↦ refl | false ↦ refl ]

-- a message is posted
pub posted_one : (old new : Whole) (to : AgentId) (message : Message)
    → new ≡ record old { outbox = new.outbox }
    → ((other : ℕ) → post_at new.outbox.posts other ≡ at_number (post_at old.outbox.posts) old.outbox.posts.made (Some (record { to = to; message = message })) other)
    → ((other : ℕ) → is_seen new.outbox.posts other ≡ at_number (is_seen old.outbox.posts) old.outbox.posts.made false other)
    → new.outbox.posts.made ≡ suc old.outbox.posts.made
    → world_of new ≡ posting (world_of old) to message
unfolding world_of
posted_one old new to message rest post seen made =
    ap world_of rest
    ∙ (λ i. record (world_of old) { post = λ k. (ap (option_map sent_of) (post k) ∙ sent_at (post_at old.outbox.posts) old.outbox.posts.made (record { to = to; message = message }) k) i; seen = λ k. seen k i; posts = made i })

-- a kept post is delivered
pub marked_one : (old new : Whole) (number : ℕ)
    → new ≡ record old { outbox = new.outbox }
    → ((other : ℕ) → post_at new.outbox.posts other ≡ post_at old.outbox.posts other)
    → ((other : ℕ) → is_seen new.outbox.posts other ≡ at_number (is_seen old.outbox.posts) number true other)
    → new.outbox.posts.made ≡ old.outbox.posts.made
    → world_of new ≡ marked (world_of old) number
unfolding world_of
marked_one old new number rest post seen made =
    ap world_of rest ∙ (λ i. record (world_of old) { post = λ k. ap (option_map sent_of) (post k) i; seen = λ k. seen k i; posts = made i })

-- room was made, and no post changed
pub prepared_one : (old new : Whole)
    → new ≡ record old { outbox = new.outbox }
    → new.outbox.posts.kept ≡ old.outbox.posts.kept
    → new.outbox.posts.made ≡ old.outbox.posts.made
    → world_of new ≡ world_of old
unfolding world_of
prepared_one old new rest kept made =
    ap world_of rest
    ∙ (λ i. record (world_of old) { post = λ k. option_map sent_of (option_map (λ p. p.post) (kept_at (kept i) k)); seen = λ k. nat_lt k (made i) && is_over (kept_at (kept i) k); posts = made i })

-- a request was made
pub requested_one : (old new : Whole)
    → new ≡ record old { requests = new.requests }
    → new.requests.made ≡ suc old.requests.made
    → ((other : ℕ) → is_closed new.requests other ≡ is_closed old.requests other)
    → world_of new ≡ record (world_of old) { requests = suc old.requests.made }
unfolding world_of
requested_one old new rest made closed = ap world_of rest ∙ (λ i. record (world_of old) { closed = λ r. closed r i; requests = made i })

-- a request was made, and has its outcome
pub counted_one : (old new : Whole)
    → new ≡ record old { requests = new.requests }
    → new.requests.made ≡ suc old.requests.made
    → ((other : ℕ) → is_closed new.requests other ≡ at_number (is_closed old.requests) old.requests.made true other)
    → world_of new ≡ counted (world_of old)
unfolding world_of
counted_one old new rest made closed = ap world_of rest ∙ (λ i. record (world_of old) { closed = λ r. closed r i; requests = made i })

-- time passed
pub advanced_one : (old : Whole) (moment : ℕ) → world_of (record old { turn = record old.turn { now = moment } }) ≡ advanced (world_of old) moment
unfolding world_of
advanced_one old moment = refl

-- a city began
pub begun_one : (registry : Titles) (agents : List Holdings) (book : Recorded) (outbox : Outgoing) (new : Whole)
    → new ≡ record (begun registry agents book) { outbox = outbox }
    → outbox.posts ≡ (begun registry agents book).outbox.posts
    → world_of new ≡ world_of (begun registry agents book)
unfolding world_of
begun_one registry agents book outbox new is none =
    ap world_of is ∙ ap (λ (posts : Queue). world_of (record (begun registry agents book) { outbox = record outbox { posts = posts } })) none
