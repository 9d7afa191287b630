-- Each answer of a run is allowed.
use Rattle.std.proofs.Common.{◌≡◌, ℕ, zero, suc, ◌+◌, ◌≤◌, Bool, true, false, if◌then◌else◌, nat_lt, List, [], ◌∷◌, ◌++◌, map, length, slice_get, All, Option, Some, None, IsSome, IfSome, option_map, Result, Ok, Err, refl, sym, ◌∙◌, ap, subst, arith}
use Rattle.std.specs.Option.{option_map_or}
use Rattle.std.specs.List.{cons_option, find}
use Rattle.std.specs.Cmp.Lexicographic.{pointwise}
use Rattle.std.proofs.lemmas.Bool.{ltb-false}
use Rattle.std.proofs.lemmas.List.Elements.{All-map, All-filter, All-head, All-tail, All-weaker, filter_map-append}
use Rattle.std.proofs.lemmas.Option.{slice_get_past}
use Rattle.iris_base.specs.declared.name.Label.{Label}
use Rattle.iris_base.specs.declared.cite.Cite.{Cite}
use Rattle.iris_base.specs.NameOrder.{label_eq}
use Rattle.iris_tree.specs.declared.local.Local.{Local}
use Rattle.iris_tree.specs.Universe.{Node, node_at, local_of, IsOrdered}
use Rattle.iris_tree.specs.Document.{local_at, names_of}
use Rattle.iris_json.specs.declared.out.Out.{Out}
use Rattle.iris_xpath.specs.Syntax.{Syntax}
use Rattle.iris_xpath.specs.Looks.{is_full_at, query_looks, full_names}
use Rattle.iris_book.specs.declared.entry.Entry.{Entry}
use Rattle.iris_book.specs.declared.entry.Entry.TheVariants.{Updated}
use Rattle.iris_book.specs.declared.update.NodeUpdate as accepted
use Rattle.iris_book.specs.Book as book
use Rattle.iris_book.specs.Book.{Updates, with_entry, update_in, updates_in, updates_of, updates_at, update_count, value_after, value_at, left_by, today, AreSound, IsSound}
use Rattle.iris_book.proofs.Named.{name_exact}
use Rattle.iris_book.proofs.Values.{value_zero, value_is, sound_more}
use Rattle.iris_cli.specs.declared.event.Event.{Event}
use Rattle.iris_cli.specs.declared.event.Event.TheVariants as events
use Rattle.iris_cli.specs.declared.event.Sent.{Sent}
use Rattle.iris_cli.specs.declared.event.Sent.TheVariants as sent
use Rattle.iris_cli.specs.declared.event.SentUpdate.{SentUpdate}
use Rattle.iris_cli.specs.declared.session.Posted.{Posted}
use Rattle.iris_cli.specs.Run.{SiteState, World, items_of_query, version_of, newest_cite, made_by, after_update, after_delivery, after_all, is_posted, after, Runs, Starts}
use Rattle.iris_cli.specs.Played.{DoneSo}
use Rattle.iris_cli.specs.Allowed.{version_by, document_of_cites, IsAllowed, DeliversAllowed, AllDeliverAllowed, BringsAllowed, AnswersAllowed, ScriptAllowed}
use Rattle.iris_cli.proofs.Cities.{city_ordered}
use Rattle.iris_cli.proofs.Locals.{IsThere, names_there, names_kept, locals_there}
use Rattle.iris_cli.proofs.Sites.{made_next, no_past, past_more}

-- ---- what holds along a run

-- the start is in order, the history is sound, and no update came after the present moment
pub record IsGood (h : SiteState) : Type 0 where
  pub ordered : IsOrdered h.history.start
  pub sound : IsSound h.history
  pub past : All (λ u. u.1.at ≤ h.now) (updates_in h.history.entries)

-- ---- newest values

-- the last of these updates, and what it left
last_update : (x : accepted.NodeUpdate) (xs : List accepted.NodeUpdate) (old : Local) → (u : accepted.NodeUpdate) × (slice_get (x ∷ xs) (length xs) ≡ Some u) × (left_by old (x ∷ xs) ≡ u.local)
last_update x [] old = (x, refl, refl)
last_update x (y ∷ ys) old = let last = last_update y ys x.local in (last.0, last.1, last.2)

-- the value of the newest version is what the updates left
value_newest : (start : Node) (us : Updates) (name : List Label) (old : Local) → AreSound start us → local_at start name ≡ Some old → value_after start us name (length (updates_of us name)) ≡ Some (left_by old (updates_of us name))
value_newest start us name old sound there = by (updates_of us name) refl
  where
    by : (xs : List accepted.NodeUpdate) → updates_of us name ≡ xs → value_after start us name (length xs) ≡ Some (left_by old xs)
    by [] same = value_zero start us name ∙ there
    by (x ∷ xs) same =
        let last = last_update x xs old in
        let next : suc (length xs) ≡ length xs + 1 = omega arith in
        ap (λ n. value_after start us name n) next
        ∙ value_is start us name (length xs) last.0 sound (ap (λ (ys : List accepted.NodeUpdate). slice_get ys (length xs)) same ∙ last.1)
        ∙ ap (λ (l : Local). Some l) (sym last.2)

-- of a node that is there, the cited version is its newest
version_is : (h : SiteState) (name : List Label) → IsThere h.history.start name → version_of h name ≡ update_count h.history name
version_is h name there = by (node_at h.history.start name) there.1
  where
    by : (here : Option Node) → option_map local_of here ≡ Some there.0 → option_map_or (λ version. version) (option_map (λ _. update_count h.history name) here) 0 ≡ update_count h.history name
    by None e = absurd (cc)
    by (Some n) e = refl

-- the newest cites tell the newest version, whichever names they are of
tells_newest : (h : SiteState) (names : List (List Label)) (name : List Label) → IsThere h.history.start name → version_by h.history (map (newest_cite h) names) name ≡ update_count h.history name
tells_newest h [] name there = refl
tells_newest h (n ∷ names) name there = by (pointwise label_eq n name) refl (tells_newest h names name there)
  where
    by : (b : Bool) → pointwise label_eq n name ≡ b → version_by h.history (map (newest_cite h) names) name ≡ update_count h.history name
        → option_map_or (λ version. version) (option_map (λ (c : Cite). c.version) (if b then Some (newest_cite h n) else find (λ (c : Cite). pointwise label_eq c.name name) (map (newest_cite h) names))) (update_count h.history name) ≡ update_count h.history name
    by true same rest = ap (version_of h) (name_exact n name same) ∙ version_is h name there
    by false other rest = rest

-- the document of newest cites is today's
document_is : (h : SiteState) (names : List (List Label)) → IsGood h → document_of_cites h.history (map (newest_cite h) names) ≡ today h.history
document_is h names good = locals_there h.history.start _ _ good.ordered each
  where
    each : (name : List Label) (old : Local) → local_at h.history.start name ≡ Some old
        → option_map_or (λ local. local) (value_at h.history name (version_by h.history (map (newest_cite h) names) name)) old ≡ left_by old (updates_at h.history name)
    each name old there =
        ap (λ version. option_map_or (λ local. local) (value_at h.history name version) old) (tells_newest h names name (old, there))
        ∙ ap (λ (value : Option Local). option_map_or (λ local. local) value old) (value_newest h.history.start (updates_in h.history.entries) name old good.sound there)

-- ---- newest versions are held

-- no update of a node came after that moment, where none came at all
past_of : (now : ℕ) (us : Updates) (name : List Label) (k : ℕ) → All (λ u. u.1.at ≤ now) us → IfSome (slice_get (updates_of us name) k) (λ u. u.at ≤ now)
past_of now [] name k past = tt
past_of now (u ∷ us) name k past = by (pointwise label_eq name u.0) k (λ i. past_of now us name i (All-tail (λ v. v.1.at ≤ now) u us past))
  where
    by : (b : Bool) (i : ℕ) → ((j : ℕ) → IfSome (slice_get (updates_of us name) j) (λ v. v.at ≤ now)) → IfSome (slice_get (cons_option (if b then Some u.1 else None) (updates_of us name)) i) (λ v. v.at ≤ now)
    by true zero rest = All-head (λ v. v.1.at ≤ now) u us past
    by true (suc i) rest = rest i
    by false i rest = rest i

newest_held : (h : SiteState) (name : List Label) → IsGood h → IsThere h.history.start name → book.HadVersion h.history name (version_of h name) h.now
newest_held h name good there = subst (λ version. book.HadVersion h.history name version h.now) (sym (version_is h name there)) (record {
  there = subst (λ (o : Option Local). IsSome o) (sym (value_newest h.history.start (updates_in h.history.entries) name there.0 good.sound there.1)) refl;
  begun = λ before next. past_of h.now (updates_in h.history.entries) name before good.past;
  not_over = subst (λ (o : Option accepted.NodeUpdate). IfSome o (λ u. h.now ≤ u.at)) (sym (slice_get_past (updates_at h.history name) (update_count h.history name) (omega arith))) tt;
})

-- ---- an answer

names_cited : (h : SiteState) (names : List (List Label)) → map (λ (c : Cite). c.name) (map (newest_cite h) names) ≡ names
names_cited h [] = refl
names_cited h (name ∷ names) = ap (λ (rest : List (List Label)). name ∷ rest) (names_cited h names)

-- an answer of today's items, with the newest cites of the nodes that were looked into
newest_allowed : (h : SiteState) (query : Syntax) → IsGood h → IsAllowed h.history h.now query (items_of_query (today h.history) query) (map (newest_cite h) (full_names (today h.history) query)) true
newest_allowed h query good = record {
  held = of_cites (λ c. book.HadVersion h.history c.name c.version c.stamp) (λ name there. newest_held h name good there);
  past = of_cites (λ c. c.stamp ≤ h.now) (λ name there. omega arith);
  names_are = names_cited h names ∙ ap (λ (d : Node). full_names d query) (sym is_today);
  items_are = ap (λ (d : Node). items_of_query d query) (sym is_today);
  newest_is = ((λ yes. of_cites (λ c. c.version ≡ update_count h.history c.name) (λ name there. version_is h name there)), (λ all. refl));
  today_is = λ yes. is_today;
}
  where
    names : List (List Label)
    names = full_names (today h.history) query

    all_there : All (λ name. IsThere h.history.start name) names
    all_there =
        All-filter (λ name. query_looks (today h.history) (is_full_at name) query) (λ name. IsThere h.history.start name) (names_of (today h.history))
        (subst (λ (ns : List (List Label)). All (λ name. IsThere h.history.start name) ns) (sym (names_kept h.history.start _)) (names_there h.history.start good.ordered))

    of_cites : (P : Cite → Type 0) → ((name : List Label) → IsThere h.history.start name → P (newest_cite h name)) → All P (map (newest_cite h) names)
    of_cites P each = All-map P (newest_cite h) names (All-weaker (λ name. IsThere h.history.start name) (λ name. P (newest_cite h name)) each names all_there)

    is_today : document_of_cites h.history (map (newest_cite h) names) ≡ today h.history
    is_today = document_is h names good

-- ---- what updates keep

good_update : (h : SiteState) (request : ℕ) (u : SentUpdate) (made : Result Local Out) → made_by h request u ≡ made → IsGood h → IsGood (after_update h u made)
good_update h request u (Err refusal) is good = good
good_update h request u (Ok local) is good =
    let us = updates_in h.history.entries in
    let update : accepted.NodeUpdate = record { no = u.no; changes = u.changes; local = local; at = h.now } in
    let entry = Updated u.name u.no u.changes local h.now in
    let next : AreSound h.history.start (us ++ (u.name, update) ∷ []) = sound_more h.history.start us u.name update good.sound (made_next h request u local is good.past) in
    record {
      ordered = good.ordered;
      sound = subst (λ (vs : Updates). AreSound h.history.start vs) (sym (filter_map-append update_in h.history.entries (entry ∷ []))) next;
      past = past_more h.history h.history (with_entry h.history entry) h.now u.no u.name u.changes local good.past refl refl;
    }

good_delivery : (h : SiteState) (request : ℕ) (s : Sent) → IsGood h → IsGood (after_delivery h request s)
good_delivery h request (sent.Query query) good = good
good_delivery h request (sent.Update update) good = good_update h request update (made_by h request update) refl good

good_all : (h : SiteState) (posted : List Posted) → IsGood h → IsGood (after_all h posted)
good_all h [] good = good
good_all h (p ∷ ps) good = good_all (after_delivery h p.request p.sent) ps (good_delivery h p.request p.sent good)

-- a later moment
good_later : (h : SiteState) (at : ℕ) → h.now ≤ at → IsGood h → IsGood (record { kinds = h.kinds; history = h.history; now = at })
good_later h at later good = record { ordered = good.ordered; sound = good.sound; past = λ k d within. omega (arith, good.past k d within) }

good_now : (w : World) (at : ℕ) (b : Bool) → nat_lt at w.site.now ≡ b → IsGood w.site → IsGood (if b then w else record w { site = record { kinds = w.site.kinds; history = w.site.history; now = at } }).site
good_now w at true back good = good
good_now w at false on good = good_later w.site at (ltb-false at w.site.now on) good

good_post : (w : World) (s : Sent) (b : Bool) → IsGood w.site
    → IsGood (if b then record w { posted = w.posted ++ record { request = w.requests; sent = s } ∷ []; posts = w.posts + 1; requests = w.requests + 1 } else record w { requests = w.requests + 1 }).site
good_post w s true good = good
good_post w s false good = good

good_after : (w : World) (event : Event) → IsGood w.site → IsGood (after w event).site
good_after w (events.Post s) good = good_post w s (is_posted w s) good
good_after w (events.Audit query) good = good
good_after w (events.BadQuery why) good = good
good_after w (events.Now at) good = good_now w at (nat_lt at w.site.now) refl good
good_after w events.Settle good = good_all w.site w.posted good

-- ---- along a run

delivers_allowed : (h : SiteState) (request : ℕ) (s : Sent) → IsGood h → DeliversAllowed h request s
delivers_allowed h request (sent.Update update) good = tt
delivers_allowed h request (sent.Query query) good = record {
  items = items_of_query (today h.history) query;
  cites = map (newest_cite h) (full_names (today h.history) query);
  newest_only = true;
  out_is = refl;
  allowed = newest_allowed h query good;
}

all_deliver_allowed : (h : SiteState) (posted : List Posted) → IsGood h → AllDeliverAllowed h posted
all_deliver_allowed h [] good = tt
all_deliver_allowed h (p ∷ ps) good = (delivers_allowed h p.request p.sent good, all_deliver_allowed (after_delivery h p.request p.sent) ps (good_delivery h p.request p.sent good))

pub brings_allowed : (w : World) (event : Event) → IsGood w.site → BringsAllowed w event
brings_allowed w (events.Post s) good = tt
brings_allowed w (events.Audit query) good = tt
brings_allowed w (events.BadQuery why) good = tt
brings_allowed w (events.Now at) good = tt
brings_allowed w events.Settle good = all_deliver_allowed w.site w.posted good

answers_allowed : (w : World) (lines : List (List ℕ)) → IsGood w.site → AnswersAllowed w lines
answers_allowed w [] good = tt
answers_allowed w (line ∷ lines) good = λ event says. (brings_allowed w event good, answers_allowed (after w event) lines (good_after w event good))

-- a history without entries is sound
sound_start : (start : Node) → AreSound start []
sound_start start = record {
  values = λ name version u there. absurd (cc);
  moments = λ i j d le within. absurd (omega arith);
}

good_start : (city : List ℕ) (w : World) → Starts city w → IsGood w.site
good_start city w starts = record {
  ordered = subst IsOrdered (sym starts.start_is) (city_ordered city starts.city starts.reads);
  sound = subst (λ (es : List Entry). AreSound w.site.history.start (updates_in es)) (sym starts.nothing_accepted) (sound_start w.site.history.start);
  past = no_past w.site.history w.site.now starts.nothing_accepted;
}

-- each answer of a script is allowed
pub script_allowed : (lines : List (List ℕ)) → ScriptAllowed lines
script_allowed [] = tt
script_allowed (city ∷ lines) = λ start starts. answers_allowed start lines (good_start city start starts)

-- lines keep it
good_runs : (w now : World) (lines : List (List ℕ)) (written : List ℕ) → IsGood w.site → Runs w lines written now → IsGood now.site
good_runs w now [] written good runs = subst (λ (v : World). IsGood v.site) (sym runs.1) good
good_runs w now (line ∷ lines) written good runs = good_runs (after w runs.0) now lines runs.1 (good_after w runs.0 good) runs.3

-- where the lines of a script left the city
pub good_done : (lines : List (List ℕ)) (done : List ℕ) (w : World) → DoneSo lines done (Some w) → IsGood w.site
good_done [] done w did = absurd did
good_done (city ∷ lines) done w did = good_runs did.0 w lines done (good_start city did.0 did.1) did.2
