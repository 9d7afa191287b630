-- Gathers that are opened are right.
use Rattle.std.proofs.Common.{◌≡◌, ◌≢◌, ℕ, ◌≤◌, is_some, List, [], Option, Some, None, IsSome, option_map, option_and_then, refl, sym, ap, subst, ◌∙◌, arith}
use Rattle.std.proofs.lemmas.Bool.{false≢true}
use Rattle.std.proofs.lemmas.List.Elements.{All-nil}
use Rattle.std.proofs.lemmas.Option.{IfSome_then}
use Rattle.iris_base.specs.declared.name.Label.{Label}
use Rattle.iris_tree.specs.Universe.{label_of}
use Rattle.iris_xpath.specs.Syntax.{Syntax}
use Rattle.iris_fragment.specs.Changes.{version_at, own_version, part_in}
use Rattle.iris_fragment.specs.Contents.{Contents, held_at}
use Rattle.iris_fragment.specs.Usable.{held_piece, piece_of, full_held, ids_piece, full_piece}
use Rattle.iris_fragment.specs.declared.held.HeldNode.{HeldNode}
use Rattle.iris_fragment.specs.declared.held.Part.{Part}
use Rattle.iris_fragment.specs.declared.held.Part.TheVariants.{Own, Copied, Bare}
use Rattle.iris_fragment.specs.declared.piece.Level.{Level}
use Rattle.iris_fragment.specs.declared.piece.Level.TheVariants as level
use Rattle.iris_fragment.specs.declared.piece.Piece.{Piece}
use Rattle.iris_need.specs.declared.need.Start.{Start}
use Rattle.iris_need.specs.Decided.{IsAtLevel}
use Rattle.iris_need.specs.Descents.{IsStartIn}
use Rattle.iris_need.specs.Needs.{from_document}
use Rattle.iris_gather.specs.declared.parent.Parent.TheVariants as parents
use Rattle.iris_gather.specs.Gathers.{opened}
use Rattle.iris_gather.proofs.Life.{client_sound, ask_sound}
use Rattle.iris_agent.specs.declared.turn.Turn.{Turn}
use Rattle.iris_agent.specs.Opened.{client_gather, ask_gather}
use Rattle.iris_agent.specs.Tables.{Tables}
use Rattle.iris_copies.specs.Copies.{IsPresent, IsCopy, IsFresh, HoldsCopies}
use Rattle.iris_copies.proofs.FragmentPieces.{held_copy, own_piece}
use Rattle.iris_copies.proofs.Seen.{added_view, nothing_seen}
use Rattle.iris_runs.specs.Moments.{Moment, IsGatherAt, WasMadeFor}

-- a client's gather
pub client_opened : (m : Moment) (t : Tables) (turn : Turn) (request : ℕ) (asked : Syntax) (floor : ℕ) → t.top ≡ label_of m.history.start → floor ≤ m.now → IsGatherAt m (client_gather t turn request asked floor)
client_opened m t turn request asked floor top past = record {
  sound = client_sound turn.next_gather floor asked t.top (parents.Client request);
  view = nothing_seen m.history m.now floor;
  past = past;
  start = record { top = top; there = λ named. absurd (named refl) };
  begins = λ none. refl;
  pending = All-nil (λ ask. WasMadeFor m ask.0 floor ask.1.name ask.1.level);
  parent = ap from_document top;
}

-- the piece of an owned node is there at each level
pub own_piece_there : (f : Contents) (name : List Label) (l : Level) (now : ℕ) → IsSome (version_at f name) → (piece : Piece) × (held_piece f name l now ≡ Some piece) × (piece.name ≡ name) × IsAtLevel l piece
own_piece_there f name l now owned = go (held_at f.nodes name) refl l
  where
    what : Level → Type 0
    what l = (piece : Piece) × (held_piece f name l now ≡ Some piece) × (piece.name ≡ name) × IsAtLevel l piece

    go : (held : Option HeldNode) → held_at f.nodes name ≡ held → (l : Level) → what l
    go None e l = absurd (false≢true (sym (ap (λ o. is_some (own_version (part_in o))) e) ∙ owned))
    go (Some node) e level.Ids = (ids_piece name node.ids, ap (option_and_then (λ held. piece_of name held level.Ids now)) e, refl, tt)
    go (Some node) e level.Full = by node.part refl
      where
        found : held_piece f name level.Full now ≡ option_map (full_piece name node.ids) (full_held node.part now)
        found = ap (option_and_then (λ held. piece_of name held level.Full now)) e

        by : (part : Part) → node.part ≡ part → what level.Full
        by (Own local version) p = (full_piece name node.ids (record { local = local; version = version; stamp = now }), found ∙ ap (λ part. option_map (full_piece name node.ids) (full_held part now)) p, refl, refl)
        by (Copied full) p = (full_piece name node.ids full, found ∙ ap (λ part. option_map (full_piece name node.ids) (full_held part now)) p, refl, refl)
        by Bare p = absurd (false≢true (sym (ap (λ o. is_some (own_version (part_in o))) e ∙ ap (λ part. is_some (own_version part)) p) ∙ owned))

-- the gather of an ask, at the owner of its node
pub ask_opened : (m : Moment) (t : Tables) (turn : Turn) (ask : ℕ) (from : List ℕ) (asked : Syntax) (start : Start) (floor : ℕ)
    → turn.now ≡ m.now
    → IsPresent m.history m.now
    → HoldsCopies m.history m.now t.cache.contents
    → IsSome (version_at t.cache.contents start.name)
    → floor ≤ m.now
    → IsStartIn m.history.start start
    → WasMadeFor m ask floor start.name start.level
    → start.name ≢ []
    → IsGatherAt m (ask_gather t turn ask from asked start floor)
ask_opened m t turn ask from asked start floor at present holds owned past begins made named = with_piece_there (own_piece_there t.cache.contents start.name start.level turn.now owned)
  where
    with_piece_there : (piece : Piece) × (held_piece t.cache.contents start.name start.level turn.now ≡ Some piece) × (piece.name ≡ start.name) × IsAtLevel start.level piece → IsGatherAt m (ask_gather t turn ask from asked start floor)
    with_piece_there there = subst (λ first. IsGatherAt m (opened turn.next_gather asked floor start first (parents.Ask ask from))) (sym there.1) record {
      sound = ask_sound turn.next_gather floor asked start there.0 (parents.Ask ask from) there.2 there.3;
      view = added_view m.history m.now floor [] there.0 copy fresh (nothing_seen m.history m.now floor);
      past = past;
      start = begins;
      begins = λ none. absurd (named none);
      pending = All-nil (λ entry. WasMadeFor m entry.0 floor entry.1.name entry.1.level);
      parent = (made, named);
    }
      where
        now_found : held_piece t.cache.contents start.name start.level m.now ≡ Some there.0
        now_found = subst (λ now. held_piece t.cache.contents start.name start.level now ≡ Some there.0) at there.1

        copy : IsCopy m.history m.now there.0
        copy = held_copy m.history m.now t.cache.contents start.name start.level there.0 present holds now_found

        fresh : IsFresh floor there.0
        fresh = IfSome_then there.0.full (own_piece m.history m.now t.cache.contents start.name start.level there.0 holds owned now_found).stamped (λ full stamped. omega (arith, stamped, past))
