-- Gathers: their views, their pending asks, and how they go on.
use Rattle.std.specs.Prelude.{◌≡◌, ◌≢◌, ◌⊎◌, true, ℕ, List, [], ◌∷◌, ◌++◌, All, AllPairs, Contains, Option, IsSome, option_to_list, refl}
use Rattle.std.specs.Coded.{Coded, code_by, coded×, coded_ℕ, coded_list}
use Rattle.std.specs.List.{enumerate_from}
use Rattle.std.specs.List.Sorted.{IsStrictlySortedBy}
use Rattle.std.specs.Map.{lookup, keys_of, remove_entry}
use Rattle.std.specs.BTreeMap.{is_at}
use Rattle.std.specs.Cmp.Lexicographic.{slice_cmp}
use Rattle.std.specs.Ordering.{nat_cmp}
use Rattle.iris_base.specs.NameOrder.{label_cmp}
use Rattle.iris_base.specs.declared.name.Label.{Label}
use Rattle.iris_fragment.specs.declared.piece.Level.{Level}
use Rattle.iris_fragment.specs.declared.piece.Level.TheVariants.{Ids, Full}
use Rattle.iris_fragment.specs.declared.piece.Piece.{Piece}
use Rattle.iris_xpath.specs.Syntax.{Syntax}
use Rattle.iris_need.specs.Alike.{Reaches}
use Rattle.iris_need.specs.Decided.{IsAtLevel}
use Rattle.iris_need.specs.Descents.{HasAbove}
use Rattle.iris_need.specs.Laws.{look_at_start}
use Rattle.iris_need.specs.Needs.{is_under}
use Rattle.iris_need.specs.Pieces.{Pieces, AreNamed, piece_at, view_of, laid_over}
use Rattle.iris_need.specs.Run.{meets}
use Rattle.iris_need.specs.declared.need.Need.{Need}
use Rattle.iris_need.specs.declared.need.Start.{Start}
use Rattle.iris_gather.specs.Verdicts.{asks_of}
use Rattle.iris_gather.specs.declared.parent.Parent.{Parent}
use Rattle.iris_gather.specs.declared.verdict.Verdict.{Verdict}

-- asks by their numbers, with what each asks for
abbrev pub AskTable : Type 0
AskTable = List (ℕ × Need)

-- A gather: a query that is evaluated from a start over what its view has by now, for a parent.
pub record Gathering : Type 0 where
  pub id : ℕ
  pub query : Syntax
  -- the least stamp that a copy may have
  pub floor : ℕ
  pub start : Start
  pub view : Pieces
  -- the asks that have no reply yet
  pub pending : AskTable
  pub parent : Parent

-- how proofs store one
abbrev pub gathering_code : Coded Syntax → Coded Start → Coded Pieces → Coded Need → Coded Parent → Coded Gathering
gathering_code query start view need parent =
    code_by (ℕ × (Syntax × (ℕ × (Start × (Pieces × (AskTable × Parent))))))
    (coded× coded_ℕ (coded× query (coded× coded_ℕ (coded× start (coded× view (coded× (coded_list (coded× coded_ℕ need)) parent))))))
    (λ g. (g.id, (g.query, (g.floor, (g.start, (g.view, (g.pending, g.parent)))))))
    (λ p. record { id = p.0; query = p.1.0; floor = p.1.1.0; start = p.1.1.1.0; view = p.1.1.1.1.0; pending = p.1.1.1.1.1.0; parent = p.1.1.1.1.1.1 })
    (λ _. refl)

-- what the pending ask of that number asks for
abbrev pub need_at : AskTable → ℕ → Option Need
need_at pending ask = lookup (is_at (nat_cmp ask)) pending

-- ---- how it goes on

-- a gather that is opened with a first piece, or with none
abbrev pub opened : ℕ → Syntax → ℕ → Start → Option Piece → Parent → Gathering
opened id query floor start first parent = record { id = id; query = query; floor = floor; start = start; view = laid_over (option_to_list first) []; pending = []; parent = parent }

-- the gather, once its view took these pieces, and what is asked for by a verdict is pending, numbered from there on
abbrev pub settled : Gathering → Verdict → List Piece → ℕ → Gathering
settled g verdict pieces first = record g { view = laid_over pieces g.view; pending = enumerate_from first (asks_of verdict) }

-- the gather, once the reply to that ask came with these pieces
abbrev pub replied : Gathering → ℕ → List Piece → Gathering
replied g ask pieces = record g { view = laid_over pieces g.view; pending = remove_entry (is_at (nat_cmp ask)) g.pending }

-- ---- what a reply tells

-- one of these pieces has that name
abbrev pub HasName : List Piece → List Label → Type 0
HasName pieces name = (piece : Piece) × Contains pieces piece × (piece.name ≡ name)

-- Pieces that reply to an ask for a name at a level.
pub record IsReplyTo (name : List Label) (l : Level) (pieces : List Piece) : Type 0 where
  -- they tell what is asked
  pub asked : (piece : Piece) × Contains pieces piece × (piece.name ≡ name) × IsAtLevel l piece
  -- they are all at or under the name
  pub under : All (λ piece. is_under piece.name name ≡ true) pieces
  -- with each of them under the name there is one right above it
  pub closed : (above : List Label) (label : Label) → HasName pieces (above ++ label ∷ []) → is_under above name ≡ true → above ≢ [] → HasName pieces above

-- ---- what its view and its asks are like

-- with each name under that one the view has the name right above it, as far up as that one; the document itself is none
abbrev pub IsClosedTo : List Label → Pieces → Type 0
IsClosedTo top view = (above : List Label) (label : Label) → IsSome (piece_at view (above ++ label ∷ [])) → is_under above top ≡ true → above ≢ [] → IsSome (piece_at view above)

-- The view of a gather that starts there.
pub record IsGathered (start : Start) (view : Pieces) : Type 0 where
  -- each name is there once, with its own piece
  pub ordered : IsStrictlySortedBy (slice_cmp label_cmp) (keys_of view)
  pub named : AreNamed view
  -- it lies at or under the start's name, and is closed upward to it
  pub under : All (λ entry. is_under entry.0 start.name ≡ true) view
  pub closed : IsClosedTo start.name view
  -- it has what the start itself looks at
  pub own : start.name ≢ [] → meets (view_of view) (look_at_start start) ≡ true

-- strictly under the start's name, or that name itself in full, where the start looks at its ids alone
abbrev pub LiesBelow : Start → Need → Type 0
LiesBelow start need = ((is_under need.name start.name ≡ true) × (need.name ≢ start.name)) ⊎ ((need.name ≡ start.name) × (need.level ≡ Full) × (start.level ≡ Ids))

-- A gather as it is to be, with a view as above.
pub record IsSoundGather (g : Gathering) : Type 0 where
  pub gathered : IsGathered g.start g.view
  -- the numbers of its pending asks rise, so each is there once
  pub rising : IsStrictlySortedBy nat_cmp (keys_of g.pending)
  -- each asks for what lies below the start
  pub below : All (λ ask. LiesBelow g.start ask.1) g.pending
  -- the view has the node right above it
  pub above : All (λ ask. HasAbove g.view g.start ask.1.name) g.pending

-- ---- what it asked for so far

-- a need is pending, or is met by the view
abbrev pub IsPendingOrMet : Gathering → Need → Type 0
IsPendingOrMet g need = ((number : ℕ) × Contains g.pending (number, need)) ⊎ (meets (view_of g.view) need ≡ true)

-- an ask for a name at a level that an earlier one asked for
abbrev pub IsRepeated : Need → Need → Type 0
IsRepeated earlier later = (earlier.name ≡ later.name) × Reaches earlier.level later.level

-- What a gather asked for so far, in order: each need of it is pending or met, and no name is asked for again at a level that an earlier ask for it was enough for.
pub record AskedOnce (g : Gathering) (asked : List Need) : Type 0 where
  pub known : All (IsPendingOrMet g) asked
  pub once : AllPairs (λ earlier later. IsRepeated earlier later → ⊥) asked
