-- The answers in a book stay allowed.
use Rattle.std.proofs.Common.{◌≡◌, ℕ, ◌≤◌, Bool, true, false, List, [], ◌∷◌, ◌++◌, All, filter, append-nil, refl, sym, subst, arith}
use Rattle.std.proofs.lemmas.Bool.{false≢true}
use Rattle.std.proofs.lemmas.List.{append_assoc}
use Rattle.std.proofs.lemmas.List.Elements.{All-head, All-tail, All-weaker}
use Rattle.iris_base.specs.declared.cite.Cite.{Cite}
use Rattle.iris_tree.specs.declared.item.Item.{Item}
use Rattle.iris_xpath.specs.Syntax.{Syntax}
use Rattle.iris_book.specs.Book.{History, with_entry}
use Rattle.iris_book.specs.Entering.{is_lasting, without_answers}
use Rattle.iris_book.specs.declared.entry.Entry.{Entry}
use Rattle.iris_book.specs.declared.entry.Entry.TheVariants.{Updated, Gave, Answered}
use Rattle.iris_copies.specs.Allowed.{IsAllowed}
use Rattle.iris_runs.specs.Answers.{history_of, IsAllowedEntry, AreAllowedAfter, AreAnswersAllowed}

still_allowed : (h : History) (now at floor : ℕ) (asked : Syntax) (items : List Item) (cites : List Cite) → now ≤ at → IsAllowed h now floor asked items cites → IsAllowed h at floor asked items cites
still_allowed h now at floor asked items cites le is = record {
  cites_are = record {
    held = is.cites_are.held;
    fresh = is.cites_are.fresh;
    past = All-weaker (λ (c : Cite). c.stamp ≤ now) (λ c. c.stamp ≤ at) (λ c before. omega (arith, before, le)) cites is.cites_are.past;
    names_are = is.cites_are.names_are;
  };
  items_are = is.items_are;
  today_is = is.today_is;
}

entry_later : (h : History) (now at : ℕ) (entry : Entry) → now ≤ at → IsAllowedEntry h now entry → IsAllowedEntry h at entry
entry_later h now at (Updated name number changes local moment) le is = is
entry_later h now at (Gave name to epoch) le is = is
entry_later h now at (Answered request asked floor cites) le is = (is.0, still_allowed h now at floor asked is.0 cites le is.1)

-- an update and a move tell nothing that would have to be allowed
lasting_allowed : (h : History) (now : ℕ) (entry : Entry) → is_lasting entry ≡ true → IsAllowedEntry h now entry
lasting_allowed h now (Updated name number changes local at) is = tt
lasting_allowed h now (Gave name to epoch) is = tt
lasting_allowed h now (Answered request asked floor cites) is = absurd (false≢true is)

after_later : (h : History) (now at : ℕ) → now ≤ at → (earlier es : List Entry) → AreAllowedAfter h now earlier es → AreAllowedAfter h at earlier es
after_later h now at le earlier [] is = is
after_later h now at le earlier (e ∷ es) is = (entry_later (history_of h earlier) now at e le is.0, after_later h now at le (earlier ++ e ∷ []) es is.1)

after_more : (h : History) (now : ℕ) (entry : Entry) (earlier es : List Entry) → AreAllowedAfter h now earlier es → IsAllowedEntry (history_of h (earlier ++ es)) now entry → AreAllowedAfter h now earlier (es ++ entry ∷ [])
after_more h now entry earlier [] is last = (subst (λ all. IsAllowedEntry (history_of h all) now entry) (append-nil earlier) last, tt)
after_more h now entry earlier (e ∷ es) is last = (is.0, after_more h now entry (earlier ++ e ∷ []) es is.1 (subst (λ all. IsAllowedEntry (history_of h all) now entry) (sym (append_assoc earlier (e ∷ []) es)) last))

-- of a history only its start is read beside the entries
same_start : (h other : History) (now : ℕ) → h.start ≡ other.start → (earlier es : List Entry) → AreAllowedAfter h now earlier es → AreAllowedAfter other now earlier es
same_start h other now same earlier [] is = is
same_start h other now same earlier (e ∷ es) is = (subst (λ start. IsAllowedEntry (record { start = start; entries = earlier }) now e) same is.0, same_start h other now same (earlier ++ e ∷ []) es is.1)

after_filter : (h : History) (now : ℕ) (earlier es : List Entry) → AreAllowedAfter h now earlier (filter is_lasting es)
after_filter h now earlier [] = tt
after_filter h now earlier (e ∷ es) = go (is_lasting e) refl (after_filter h now (earlier ++ e ∷ []) es) (after_filter h now earlier es)
  where
    go : (lasts : Bool) → is_lasting e ≡ lasts → AreAllowedAfter h now (earlier ++ e ∷ []) (filter is_lasting es) → AreAllowedAfter h now earlier (filter is_lasting es) → AreAllowedAfter h now earlier (filter is_lasting (e ∷ es))
    go true is with_it without_it = rw is (lasting_allowed (history_of h earlier) now e is, with_it)
    go false is with_it without_it = rw is without_it

after_lasting : (h : History) (now : ℕ) (earlier es : List Entry) → All (λ e. is_lasting e ≡ true) es → AreAllowedAfter h now earlier es
after_lasting h now earlier [] all = tt
after_lasting h now earlier (e ∷ es) all = (lasting_allowed (history_of h earlier) now e (All-head (λ other. is_lasting other ≡ true) e es all), after_lasting h now (earlier ++ e ∷ []) es (All-tail (λ other. is_lasting other ≡ true) e es all))

pub none_answered : (h : History) (now : ℕ) → All (λ e. is_lasting e ≡ true) h.entries → AreAnswersAllowed h now
none_answered h now all = after_lasting h now [] h.entries all

pub nothing_answered : (h : History) (now : ℕ) → h.entries ≡ [] → AreAnswersAllowed h now
nothing_answered h now e = subst (AreAllowedAfter h now []) (sym e) tt

pub answers_later : (h : History) (now at : ℕ) → now ≤ at → AreAnswersAllowed h now → AreAnswersAllowed h at
answers_later h now at le is = after_later h now at le [] h.entries is

pub answers_more : (h : History) (now : ℕ) (entry : Entry) → IsAllowedEntry h now entry → AreAnswersAllowed h now → AreAnswersAllowed (with_entry h entry) now
answers_more h now entry allowed is = moved (after_more h now entry [] h.entries is allowed)
  where
    moved : AreAllowedAfter h now [] (h.entries ++ entry ∷ []) → AreAllowedAfter (with_entry h entry) now [] (h.entries ++ entry ∷ [])
    moved = same_start h (with_entry h entry) now refl [] (h.entries ++ entry ∷ [])

pub answers_lasting : (h : History) (now : ℕ) (entry : Entry) → is_lasting entry ≡ true → AreAnswersAllowed h now → AreAnswersAllowed (with_entry h entry) now
answers_lasting h now entry lasts is = answers_more h now entry (lasting_allowed h now entry lasts) is

pub answers_forgotten : (h : History) (now : ℕ) → AreAnswersAllowed (without_answers h) now
answers_forgotten h now = after_filter (without_answers h) now [] h.entries
