-- What a move leaves at its giver.
use Rattle.std.proofs.Common.{◌≡◌, ℕ, false, List, [], ◌∷◌, refl, sym, subst, unwrap_or}
use Rattle.std.specs.Cmp.Lexicographic.{pointwise}
use Rattle.iris_base.specs.declared.name.Label.{Label}
use Rattle.iris_base.specs.NameOrder.{label_eq}
use Rattle.iris_fragment.specs.declared.piece.Piece.{Piece}
use Rattle.iris_cache.specs.Recency.{Cache, released_in}
use Rattle.iris_migrate.specs.declared.message.Message.TheVariants as messages
use Rattle.iris_migrate.specs.Titles.{Seats, seat_at, given}
use Rattle.iris_agent.specs.declared.give.Move.{Move}
use Rattle.iris_agent.specs.declared.step.Step.{Step}
use Rattle.iris_agent.specs.declared.step.Step.TheVariants as steps
use Rattle.iris_agent.specs.declared.turn.Turn.{Turn}
use Rattle.iris_agent.specs.Changes.{HasNode}
use Rattle.iris_agent.specs.Gives.{gives}
use Rattle.iris_agent.specs.Handled.{Does}
use Rattle.iris_agent.specs.Moves.{handover_pieces}
use Rattle.iris_agent.specs.Tables.{Holdings, tables_of}
use Rattle.iris_agent.proofs.NodeTies.{node_tie}

gave : (old new : Holdings) (turn : Turn) (m : Move) (step : Step) → HasNode old new (released_in old.cache m.name turn.now) m.name (given (seat_at old.titles m.name) m.to m.epoch) → (gives (tables_of old) turn m).steps ≡ step ∷ []
    → Does new turn (step ∷ []) (gives (tables_of old) turn m)
unfolding tables_of
gave old new turn m step h posts = record {
  tables = node_tie old new (released_in old.cache m.name turn.now) m.name (given (seat_at old.titles m.name) m.to m.epoch) h;
  turn = refl;
  steps = sym posts;
}

-- the same, of an agent whose cache and seats alone are others
pub gave_from : (before old : Holdings) (cache : Cache) (titles : Seats) (turn : Turn) (m : Move) (step : Step)
    → before ≡ old
    → cache ≡ released_in before.cache m.name turn.now
    → seat_at titles m.name ≡ given (seat_at before.titles m.name) m.to m.epoch
    → ((other : List Label) → pointwise label_eq other m.name ≡ false → seat_at titles other ≡ seat_at before.titles other)
    → (gives (tables_of old) turn m).steps ≡ step ∷ []
    → Does (record before { cache = cache; titles = titles }) turn (step ∷ []) (gives (tables_of old) turn m)
gave_from before old cache titles turn m step is released there others posts =
    gave old new turn m step (subst (λ (h : Holdings). HasNode h new (released_in h.cache m.name turn.now) m.name (given (seat_at h.titles m.name) m.to m.epoch)) is (record { holds = released; there = there; others = others; rest = refl })) posts
  where
    new : Holdings
    new = record before { cache = cache; titles = titles }

-- the handover of a move has the copied name, the last number and the pieces
pub handed : (h : Holdings) (turn : Turn) (m : Move) (name : List Label) (last : ℕ) (pieces : List Piece)
    → name ≡ m.name
    → last ≡ unwrap_or (seat_at h.titles m.name).last 0
    → pieces ≡ handover_pieces h.cache.contents m.name turn.now
    → (gives (tables_of h) turn m).steps ≡ steps.Post m.to (messages.Handover (record { name = name; epoch = m.epoch; last = last; pieces = pieces })) ∷ []
unfolding tables_of
handed h turn m name last pieces named numbered made = sym (λ i. steps.Post m.to (messages.Handover (record { name = named i; epoch = m.epoch; last = numbered i; pieces = made i })) ∷ [])
