-- What the calls of a decision leave together.
use Rattle.std.proofs.Common.{◌≡◌, ℕ, ◌+◌, ◌≤◌, Bool, true, false, cond, List, [], ◌∷◌, length, map, Option, Some, None, IsSome, refl, sym, ap, ◌∙◌, subst, arith}
use Rattle.std.specs.BTreeMap.{is_at}
use Rattle.std.specs.List.{enumerate_from}
use Rattle.std.specs.Ordering.{nat_cmp}
use Rattle.std.proofs.lemmas.Bool.{false≢true}
use Rattle.std.proofs.lemmas.Bool.Decides.{nat_tests}
use Rattle.iris_base.specs.declared.cite.Cite.{Cite}
use Rattle.iris_tree.specs.declared.item.Item.{Item}
use Rattle.iris_fragment.specs.declared.piece.Piece.{Piece}
use Rattle.iris_cache.specs.Recency.{Cache}
use Rattle.iris_xpath.specs.Syntax.{Syntax}
use Rattle.iris_need.specs.declared.need.Need.{Need}
use Rattle.iris_need.specs.declared.need.Start.{Start}
use Rattle.iris_need.specs.Needs.{missing_of}
use Rattle.iris_need.specs.Pieces.{Pieces}
use Rattle.iris_route.specs.Titles.{Titles}
use Rattle.iris_gather.specs.declared.basis.Basis.{Basis}
use Rattle.iris_gather.specs.declared.entries.OpenGather.{OpenGather}
use Rattle.iris_gather.specs.declared.verdict.Verdict.{Verdict}
use Rattle.iris_gather.specs.declared.verdict.Verdict.TheVariants.{Done, Asks}
use Rattle.iris_gather.specs.Gathers.{AskTable, Gathering, need_at, settled}
use Rattle.iris_gather.specs.OpenGathers.{unlent, awaits, is_due, NoGather}
use Rattle.iris_gather.specs.Verdicts.{IsVerdict, asks_of}
use Rattle.iris_agent.specs.declared.step.Step.{Step}
use Rattle.iris_agent.specs.declared.turn.Turn.{Turn}
use Rattle.iris_agent.specs.Changes.{HasCache, HasGather}
use Rattle.iris_agent.specs.Decisions.{laid_view, ask_posted, asks_posted, ending, decides, all_touched, next_asks, judged, AreFreeAsks, AreRouted, IsBasis}
use Rattle.iris_agent.specs.Handled.{Does}
use Rattle.iris_agent.specs.Tables.{Holdings, Tables, tables_of, with_cache, with_gather}
use Rattle.iris_agent.proofs.TableTies.{cache_tie, gather_tie}

-- one gather is another, and then copies were used
pub touched_tie : (old mid new : Holdings) (number : ℕ) (one : Option OpenGather) (needs : List Need) → HasGather old mid number one → HasCache mid new (all_touched mid.cache needs)
    → tables_of new ≡ with_gather (with_cache (tables_of old) (all_touched old.cache needs)) number one
unfolding tables_of
touched_tie old mid new number one needs exchanged used =
    cache_tie mid new (all_touched mid.cache needs) used
    ∙ ap (λ (t : Tables). with_cache t (all_touched mid.cache needs)) (gather_tie old mid number one exchanged)
    ∙ ap (λ (c : Cache). with_cache (with_gather (tables_of old) number one) (all_touched c needs)) (ap (λ (h : Holdings). h.cache) exchanged.rest)

-- with nothing missing the gather ended
pub done_tie : (registry : Titles) (old new : Holdings) (turn : Turn) (number : ℕ) (g : Gathering) (cites : List Cite) (verdict : Verdict) (support : List Need) (items : List Item) (step : Step) (made : List Step)
    → verdict ≡ Done support items
    → step ≡ ending g items cites g.parent
    → made ≡ step ∷ []
    → tables_of new ≡ with_gather (with_cache (tables_of old) (all_touched old.cache support)) number None
    → Does new turn made (judged registry (tables_of old) turn number g cites verdict)
unfolding tables_of
done_tie registry old new turn number g cites verdict support items step made is told one tables =
    subst (λ (v : Verdict). Does new turn made (judged registry (tables_of old) turn number g cites v)) (sym is)
    (record { tables = tables; turn = refl; steps = one ∙ ap (λ (s : Step). s ∷ []) told })

-- else it waits for what it asked
pub asks_tie : (registry : Titles) (old new : Holdings) (turn after : Turn) (number : ℕ) (g : Gathering) (cites : List Cite) (verdict : Verdict) (support missing : List Need) (made : List Step)
    → verdict ≡ Asks support missing
    → after ≡ next_asks turn (length missing)
    → made ≡ asks_posted registry old.id g
    → tables_of new ≡ with_gather (with_cache (tables_of old) (all_touched old.cache support)) number (Some (unlent g))
    → Does new after made (judged registry (tables_of old) turn number g cites verdict)
unfolding tables_of
asks_tie registry old new turn after number g cites verdict support missing made is later posted tables =
    subst (λ (v : Verdict). Does new after made (judged registry (tables_of old) turn number g cites v)) (sym is)
    (record { tables = tables; turn = later; steps = posted })

-- asks that are numbered from there on have no lower number
pub numbered_from : (first : ℕ) (needs : List Need) (ask : ℕ) → IsSome (need_at (enumerate_from first needs) ask) → first ≤ ask
numbered_from first [] ask some' = absurd (false≢true some')
numbered_from first (need ∷ needs) ask some' = by (is_at (nat_cmp ask) first) refl some' (numbered_from (first + 1) needs ask)
  where
    by : (b : Bool) → is_at (nat_cmp ask) first ≡ b → IsSome (cond b (Some need) (need_at (enumerate_from (first + 1) needs) ask)) → (IsSome (need_at (enumerate_from (first + 1) needs) ask) → first + 1 ≤ ask) → first ≤ ask
    by true same found later = grind (arith, nat_tests)
    by false apart found later = let more = later found in omega arith

-- such asks are free where all from there on are
pub free_asks : (h : Holdings) (first : ℕ) (needs : List Need) (pending : AskTable) → AreFreeAsks h first → pending ≡ enumerate_from first needs
    → (ask : ℕ) → IsSome (need_at pending ask) → NoGather (awaits ask) h.gathers
free_asks h first needs pending free are ask some' = free ask (numbered_from first needs ask (subst (λ (asks : AskTable). IsSome (need_at asks ask)) are some'))

-- what a verdict asks for is what is missing
pub asks_missing : (query : Syntax) (start : Start) (over : Pieces) (verdict : Verdict) → IsVerdict query start over verdict → asks_of verdict ≡ missing_of query start over
asks_missing query start over (Done support items) is = sym is.whole
asks_missing query start over (Asks support missing) is = is.missing_is

-- where the registry has the nodes of what is missing, it has those of what is asked for
pub routed_tie : (registry : Titles) (h : Holdings) (now : ℕ) (o : Option OpenGather) (basis : Basis) → is_due o ≡ true
    → ((one : OpenGather) → o ≡ Some one → AreRouted registry (missing_of one.gather.query one.gather.start (laid_view h now one.gather)))
    → ((one : OpenGather) → o ≡ Some one → IsBasis one.gather.query one.gather.start (laid_view h now one.gather) basis)
    → AreRouted registry (asks_of basis.verdict)
routed_tie registry h now None basis due routed based = absurd (false≢true due)
routed_tie registry h now (Some one) basis due routed based =
    subst (AreRouted registry) (sym (asks_missing one.gather.query one.gather.start (laid_view h now one.gather) basis.verdict (based one refl).verdict)) (routed one refl)

-- what was said of a copy of the lists of a basis is so of the basis: with nothing missing the gather ended
pub done_decides : (registry : Titles) (old new : Holdings) (turn : Turn) (number : ℕ) (one gather : Gathering) (basis : Basis) (pieces : List Piece) (support used : List Need) (items : List Item) (step : Step) (made : List Step)
    → basis.verdict ≡ Done support items
    → pieces ≡ basis.pieces
    → gather ≡ settled one basis.verdict pieces turn.next_ask
    → step ≡ ending gather items basis.cites gather.parent
    → made ≡ step ∷ []
    → used ≡ support
    → tables_of new ≡ with_gather (with_cache (tables_of old) (all_touched old.cache used)) number None
    → Does new turn made (decides registry old turn number one basis)
done_decides registry old new turn number one gather basis pieces support used items step made is pieces_are taken told only used_are tables =
    let same : gather ≡ settled one basis.verdict basis.pieces turn.next_ask = taken ∙ ap (λ (ps : List Piece). settled one basis.verdict ps turn.next_ask) pieces_are in
    let left : tables_of new ≡ with_gather (with_cache (tables_of old) (all_touched old.cache support)) number None =
    tables ∙ ap (λ (needs : List Need). with_gather (with_cache (tables_of old) (all_touched old.cache needs)) number None) used_are in
    subst (λ (g : Gathering). Does new turn made (judged registry (tables_of old) turn number g basis.cites basis.verdict)) same
    (done_tie registry old new turn number gather basis.cites basis.verdict support items step made is told only left)

-- and else it waits for what it asked
pub asks_decide : (registry : Titles) (old new : Holdings) (turn after : Turn) (number : ℕ) (one gather : Gathering) (basis : Basis) (id : List ℕ) (pieces : List Piece) (support missing used needs asked : List Need) (made : List Step)
    → basis.verdict ≡ Asks support missing
    → pieces ≡ basis.pieces
    → gather ≡ settled one basis.verdict pieces turn.next_ask
    → asked ≡ asks_of basis.verdict
    → after ≡ next_asks turn (length asked)
    → id ≡ old.id
    → needs ≡ missing
    → made ≡ map (ask_posted registry id gather) (enumerate_from turn.next_ask needs)
    → gather.pending ≡ enumerate_from turn.next_ask (asks_of basis.verdict)
    → used ≡ support
    → tables_of new ≡ with_gather (with_cache (tables_of old) (all_touched old.cache used)) number (Some (unlent gather))
    → Does new after made (decides registry old turn number one basis)
asks_decide registry old new turn after number one gather basis id pieces support missing used needs asked made is pieces_are taken asked_are later id_is needs_are posted pending used_are tables =
    let same : gather ≡ settled one basis.verdict basis.pieces turn.next_ask = taken ∙ ap (λ (ps : List Piece). settled one basis.verdict ps turn.next_ask) pieces_are in
    let are_missing : asks_of basis.verdict ≡ missing = ap asks_of is in
    let turned : after ≡ next_asks turn (length missing) = later ∙ ap (λ (ns : List Need). next_asks turn (length ns)) (asked_are ∙ are_missing) in
    let all_posted : made ≡ asks_posted registry old.id gather =
    posted ∙ (λ k. map (ask_posted registry (id_is k) gather) (enumerate_from turn.next_ask (needs_are k)))
    ∙ ap (map (ask_posted registry old.id gather)) (sym (pending ∙ ap (enumerate_from turn.next_ask) are_missing)) in
    let left : tables_of new ≡ with_gather (with_cache (tables_of old) (all_touched old.cache support)) number (Some (unlent gather)) =
    tables ∙ ap (λ (ns : List Need). with_gather (with_cache (tables_of old) (all_touched old.cache ns)) number (Some (unlent gather))) used_are in
    subst (λ (g : Gathering). Does new after made (judged registry (tables_of old) turn number g basis.cites basis.verdict)) same
    (asks_tie registry old new turn after number gather basis.cites basis.verdict support missing made is turned all_posted left)
