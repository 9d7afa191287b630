-- The program's deliveries and settles are the model's.
use Rattle.iris_protocol.specs.Table.{Name, AgentId}
use Rattle.std.proofs.Common.{◌≡◌, ℕ, zero, suc, true, false, if◌then◌else◌, [], Option, Some, None, refl, sym, ap, ◌∙◌, subst}
use Rattle.iris_protocol.specs.World.{Post, Gather, Status, idle, opened, done, is_done, World, arrives}
use Rattle.iris_protocol.specs.Good.{Good}
use Rattle.iris_protocol.specs.Settle.{Choices, decides_each, delivers_by, delivers, is_fresh, first_from, lowest, due_at, NoneDue, NoneLent, Quiet}
use Rattle.iris_protocol.specs.Program.{Program, Tells, program_of, Known}
use Rattle.iris_protocol.specs.ProgramSettle.{Outside, Fair, program_decides_each, program_delivers_by, program_delivers, program_first, program_lowest, program_deliveries, Places, program_settles, ProgramNoneLent, ProgramQuiet}
use Rattle.iris_protocol.proofs.Tables.{of_some}
use Rattle.iris_protocol.proofs.Dues.{each_keeps, each_lent, each_none_due, delivers_none_due, delivers_keeps, delivers_lent}
use Rattle.iris_protocol.proofs.Quiets.{quiet_of, still_of}
use Rattle.iris_protocol.proofs.Programs.{program_arrival}
use Rattle.iris_protocol.proofs.ProgramEvents.{program_decision}

module _ (outside : Outside) (fair : Fair outside) where
  -- the model reads of its world what the program has
  choices : Choices
  choices = record { misses = λ w. outside.misses (program_of w); keeps = λ w. outside.keeps (program_of w) }

  program_each : (agent : ℕ → AgentId) (n g : ℕ) (w : World) → program_of (decides_each choices agent n g w) ≡ program_decides_each outside agent n g (program_of w)
  unfolding choices
  program_each agent zero g w = refl
  program_each agent (suc n) g w = program_each agent n (suc g) _ ∙ ap (λ (t : Program). program_decides_each outside agent n (suc g) t) (program_decision w (agent g) g (w.gather (agent g) g) (outside.misses (program_of w) (agent g) g))

  program_delivery : (w : World) (k : ℕ) (o : Option Post) → w.posted.post k ≡ o → Good w [] [] → program_of (delivers_by choices w k o) ≡ program_delivers_by outside (program_of w) k o
  unfolding choices
  program_delivery w k None is good = refl
  program_delivery w k (Some p) is good =
      program_each (λ g. p.to) (arrives w (outside.keeps (program_of w)) k (Some p)).gathers 0 (arrives w (outside.keeps (program_of w)) k (Some p))
      ∙ ap (λ (t : Program). program_decides_each outside (λ g. p.to) t.next_gather 0 t) (program_arrival w (outside.serving (program_of w) k) (outside.keeps (program_of w)) k (Some p) is (λ q e. of_some (λ (x : Post). Tells (program_of w).agent (outside.serving (program_of w) k) x.letter) (w.posted.post k) q (is ∙ e) (fair.tells (program_of w) k (record { world = w; is = refl; good = good }))) good)

  -- a world of the model with this program, good, and no gather due or lent
  record Ready (t : Program) : Type 0 where
    world : World
    is : program_of world ≡ t
    good : Good world [] []
    due : NoneDue world
    lent : NoneLent world

  ready_delivers : (t : Program) (k : ℕ) → Ready t → Ready (program_delivers outside t k)
  unfolding choices
  ready_delivers t k r = record {
    world = delivers choices r.world k;
    is = program_delivery r.world k (r.world.posted.post k) refl r.good ∙ ap (λ (u : Program). program_delivers outside u k) r.is;
    good = delivers_keeps choices (λ w a g. fair.fits (program_of w) a g) r.world k r.good;
    due = delivers_none_due choices r.world k r.good r.due;
    lent = delivers_lent choices r.world k r.lent;
  }

  ready_deliveries : (most : ℕ) (t : Program) → Ready t → Ready (program_deliveries outside most t)
  ready_deliveries zero t r = r
  ready_deliveries (suc most) t r = go (λ k. ready_deliveries most (program_delivers outside t k) (ready_delivers t k r)) (program_lowest t)
    where
      go : ((k : ℕ) → Ready (program_deliveries outside most (program_delivers outside t k))) → (o : Option ℕ) → Ready (elim o [ None ↦ t | Some k ↦ program_deliveries outside most (program_delivers outside t k) ])
      go ih None = r
      go ih (Some k) = ih k

  -- the decisions with which a settle begins
  begins : (t : Program) (place : ℕ → AgentId) → Places t place → ProgramNoneLent t → Known t → Ready (program_decides_each outside place t.next_gather 0 t)
  unfolding choices
  begins t place places lent k = record {
    world = decides_each choices place k.world.gathers 0 k.world;
    is = program_each place k.world.gathers 0 k.world ∙ ap (λ (u : Program). program_decides_each outside place u.next_gather 0 u) k.is;
    good = each_keeps choices (λ w a g. fair.fits (program_of w) a g) place k.world.gathers 0 k.world k.good;
    due = each_none_due choices place k.world (λ b h ne. none b h ne (k.world.gather b h) refl) k.good;
    lent = each_lent choices place k.world.gathers 0 k.world (subst (λ (u : Program). ProgramNoneLent u) (sym k.is) lent);
  }
    where
      none : (b : AgentId) (h : ℕ) → (b ≡ place h → ⊥) → (o : Option Gather) → k.world.gather b h ≡ o → due_at o ≡ false
      none b h ne None e = refl
      none b h ne (Some x) e = absurd (ne (sym (subst (λ (u : Program). Places u place) (sym k.is) places b h (λ c. let y = sym e ∙ c in cc))))

  quiet : (t : Program) → Ready t → program_lowest t ≡ None → ProgramQuiet t
  quiet t r e = subst ProgramQuiet r.is (record {
    owned = λ n c. let h = (q.held n).last in cc;
    parked = λ a n. q.parked n a;
    closed = q.closed;
    answered = λ i lt. go i (r.world.status i) refl (q.answered i lt);
  })
    where
      first_is : (w : World) (count k : ℕ) → first_from w count k ≡ program_first (program_of w) count k
      first_is w zero k = refl
      first_is w (suc count) k = ap (λ (o : Option ℕ). if is_fresh (w.posted.post k) (w.posted.seen k) then Some k else o) (first_is w count (suc k))

      low : lowest r.world ≡ None
      low = first_is r.world r.world.posted.posts 0 ∙ ap program_lowest r.is ∙ e

      q : Quiet r.world
      q = quiet_of r.world r.good (still_of r.world r.good low) r.due r.lent

      go : (i : ℕ) (s : Status) → r.world.status i ≡ s → (r.world.status i ≡ idle → ⊥) × ((a : AgentId) (g : ℕ) → r.world.status i ≡ opened a g → ⊥) → is_done (r.world.status i) ≡ true
      go i idle is h = absurd (h.0 is)
      go i (opened a g) is h = absurd (h.1 a g is)
      go i (done o) is h = ap is_done is

  pub program_settled : (t : Program) (place : ℕ → AgentId) (most : ℕ) → Places t place → ProgramNoneLent t → Known t → program_lowest (program_settles outside place most t) ≡ None → ProgramQuiet (program_settles outside place most t)
  program_settled t place most places lent k e = quiet (program_settles outside place most t) (ready_deliveries most (program_decides_each outside place t.next_gather 0 t) (begins t place places lent k)) e
