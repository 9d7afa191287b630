-- When an evaluation that was made elsewhere is taken, put together from what the calls tell.
use Rattle.std.proofs.Common.{◌≡◌, ◌≢◌, ℕ, Bool, true, false, not, List, [], ◌∷◌, inr, Option, Some, None, Result, Ok, Err, option_map, refl, sym, ap, ◌∙◌, subst}
use Rattle.std.specs.Prelude.{IfOk, IfErr}
use Rattle.iris_base.specs.declared.memory.Memory.{Memory}
use Rattle.iris_base.specs.declared.name.Label.{Label}
use Rattle.iris_need.specs.Decided.{pieces_for}
use Rattle.iris_need.specs.Needs.{missing_of, support_of}
use Rattle.iris_need.specs.Pieces.{Pieces}
use Rattle.iris_route.specs.Titles.{Titles}
use Rattle.iris_gather.specs.declared.basis.Basis.{Basis}
use Rattle.iris_gather.specs.declared.entries.OpenGather.{OpenGather}
use Rattle.iris_gather.specs.Basis.{cites_of}
use Rattle.iris_gather.specs.Gathers.{AskTable, Gathering}
use Rattle.iris_gather.specs.OpenGathers.{OpenGathers, gather_at, is_lent}
use Rattle.iris_gather.specs.Validation.{IsStillValid, IsFirstChanged}
use Rattle.iris_gather.specs.Verdicts.{IsVerdict, asks_of}
use Rattle.iris_gather.proofs.Stand.{asks_missing}
use Rattle.iris_agent.specs.declared.commit.Done.{Done}
use Rattle.iris_agent.specs.declared.job.Job.{Job}
use Rattle.iris_agent.specs.Commits.{IsLentFor, IsValidated}
use Rattle.iris_agent.specs.Decisions.{laid_view, AreRouted, IsBasis}
use Rattle.iris_agent.specs.Tables.{Holdings}

pub not_waiting : (waits idle : Bool) → idle ≡ not waits → idle ≡ true → waits ≡ false
not_waiting true idle is h = absurd (cc)
not_waiting false idle is h = refl

-- nothing is pending at a gather that doesn't wait
pub none_pending : (waits : Bool) (pending : AskTable) → (pending ≢ [] → waits ≡ true) → waits ≡ false → pending ≡ []
none_pending waits [] told not = refl
none_pending waits (ask ∷ asks) told not = let waiting : waits ≡ true = told (λ none. absurd (cc)) in absurd (cc)

-- the gather of a job's number that is lent, waits for nothing and has the query and the start of the job
pub lent_tie : (h : Holdings) (gathers : OpenGathers) (job : Job) (held x : Gathering)
    → gathers ≡ h.gathers
    → Some held ≡ option_map (λ one. one.gather) (gather_at gathers job.gather)
    → is_lent (gather_at gathers job.gather) ≡ true
    → held.pending ≡ []
    → held.query ≡ job.query
    → held.start ≡ job.start
    → Some held ≡ Some x
    → (one : OpenGather) × IsLentFor h job one × (one.gather ≡ x)
lent_tie h gathers job held x mine found lent idle query start is = go (gather_at gathers job.gather) refl found lent
  where
    go : (o : Option OpenGather) → gather_at gathers job.gather ≡ o → Some held ≡ option_map (λ one. one.gather) o → is_lent o ≡ true → (one : OpenGather) × IsLentFor h job one × (one.gather ≡ x)
    go None at e l = absurd (cc)
    go (Some one) at e l =
        let same : one.gather ≡ held = cc in
        let to : held ≡ x = cc in (
          one,
          record {
            there = ap (λ (gs : OpenGathers). gather_at gs job.gather) (sym mine) ∙ at;
            lent = l;
            idle = ap (λ (g : Gathering). g.pending) same ∙ idle;
            query = ap (λ (g : Gathering). g.query) same ∙ query;
            start = ap (λ (g : Gathering). g.start) same ∙ start;
          },
          same ∙ to,
        )

-- What a verdict's validation over that view tells.
pub record IsTold (done : Done) (over : Pieces) (r : Result (Result Basis (List Label)) Memory) : Type 0 where
  pub valid : IfOk r (λ v. IfOk v (λ _. IsStillValid done.job.view over done.verdict))
  pub verdict : IfOk r (λ v. IfOk v (λ basis. IsVerdict done.job.query done.job.start over basis.verdict))
  pub pieces : IfOk r (λ v. IfOk v (λ basis. basis.pieces ≡ pieces_for over (support_of done.job.query done.job.start over)))
  pub cites : IfOk r (λ v. IfOk v (λ basis. basis.cites ≡ cites_of done.job.query done.job.start over))
  pub changed : IfOk r (λ v. IfErr v (λ name. IsFirstChanged done.job.view over done.verdict name))

-- a verdict was validated over the laid view of the gather that is lent for its job
pub validated_tie : (h : Holdings) (now : ℕ) (done : Done) (one : OpenGather) (over : Pieces) (r : Result (Result Basis (List Label)) Memory)
    → IsLentFor h done.job one
    → over ≡ laid_view h now one.gather
    → IsTold done over r
    → IfOk r (IsValidated h now done)
validated_tie h now done one over (Err memory) lent is told = tt
validated_tie h now done one over (Ok (Ok basis)) lent is told = (record { one = one; lent = lent; valid = subst (λ (view : Pieces). IsStillValid done.job.view view done.verdict) is told.valid }, based)
  where
    based : (other : OpenGather) → IsLentFor h done.job other → IsBasis other.gather.query other.gather.start (laid_view h now other.gather) basis
    based other mine =
        let both : Some one ≡ Some other = sym lent.there ∙ mine.there in
        let same : one ≡ other = cc in
        let view : over ≡ laid_view h now other.gather = is ∙ ap (λ (x : OpenGather). laid_view h now x.gather) same in
        let query = sym mine.query in
        let start = sym mine.start in
        record {
          verdict = subst (λ v. IsVerdict other.gather.query other.gather.start v basis.verdict) view (subst (λ s. IsVerdict other.gather.query s over basis.verdict) start (subst (λ q. IsVerdict q done.job.start over basis.verdict) query told.verdict));
          pieces = told.pieces ∙ (λ i. pieces_for (view i) (support_of (query i) (start i) (view i)));
          cites = told.cites ∙ (λ i. cites_of (query i) (start i) (view i));
        }
validated_tie h now done one over (Ok (Err name)) lent is told = inr (one, lent, subst (λ (view : Pieces). IsFirstChanged done.job.view view done.verdict name) is told.changed)

-- what is missing of a gather whose job's verdict is valid still is what that verdict asks for
pub routed_still : (registry : Titles) (h : Holdings) (now : ℕ) (done : Done) (basis : Basis)
    → IsValidated h now done (Ok basis)
    → ((one : OpenGather) → gather_at h.gathers done.job.gather ≡ Some one → AreRouted registry (missing_of one.gather.query one.gather.start (laid_view h now one.gather)))
    → AreRouted registry (asks_of basis.verdict)
routed_still registry h now done basis valid routed =
    let one = valid.0.one in
    let lent = valid.0.lent in
    subst (AreRouted registry) (sym (asks_missing one.gather.query one.gather.start (laid_view h now one.gather) basis.verdict (valid.1 one lent).verdict)) (routed one lent.there)
