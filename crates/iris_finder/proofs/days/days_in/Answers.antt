use Rattle.std.proofs.Common.{◌≡◌, ℕ, ◌+◌, ◌<◌, ◌≤◌, Bool, true, ◌&&◌, ◌==◌, set, List, [], ◌∷◌, ◌++◌, map, take, get_or, length, Some, sym, ap, ◌∙◌, arith}
use Rattle.std.specs.List.{list_all}
use Rattle.std.proofs.lemmas.List.Folds.{list_all_more}
use Rattle.std.proofs.lemmas.List.{take_more, take_more_set, take_all, length-set, map-append}
use Rattle.iris_finder.specs.Tariff.{is_day, days_of}
use Rattle.iris_finder.proofs.days.days_in.Goals as goal
use Rattle.iris_finder.proofs.days.days_in.Goals.{else-day-ne48-via-then-day-ne48+else-day-ne49, else-day-ne48-via-else-day-ne48}

day_48 : (b : ℕ) → b ≡ 48 → is_day b ≡ true
day_48 b h = ap is_day h

day_49 : (b : ℕ) → b ≡ 49 → is_day b ≡ true
day_49 b h = ap is_day h

more_told : (days : List Bool) (text : List ℕ) (i : ℕ) → i < length days → i < length text → take i days ≡ map (λ b. b == 49) (take i text)
    → take (i + 1) (set days i (get_or text i 0 == 49)) ≡ map (λ b. b == 49) (take (i + 1) text)
more_told days text i within inside told =
    take_more_set days i (get_or text i 0 == 49) within ∙ ap (λ (ds : List Bool). ds ++ (get_or text i 0 == 49) ∷ []) told
    ∙ sym (map-append (λ (b : ℕ). b == 49) (take i text) (get_or text i 0 ∷ [])) ∙ ap (map (λ (b : ℕ). b == 49)) (sym (take_more text i 0 inside))

pub loop-i-preserved : goal.loop-i-preserved
loop-i-preserved c =
    let text : List ℕ = c.args.text.now in
    let day : is_day (get_or c.args.text.now c.loop-i.i 0) ≡ true = elim c.else-day-ne48.branch [
      | else-day-ne48-via-then-day-ne48+else-day-ne49 w ↦ day_49 (get_or c.args.text.now c.loop-i.i 0) w.if-day-ne49.false
      | else-day-ne48-via-else-day-ne48 w ↦ day_48 (get_or c.args.text.now c.loop-i.i 0) w.if-day-ne48.false
    ] in
    record {
      seven = length-set c.loop-i.days c.loop-i.i _ ∙ c.loop-i.invariant.seven;
      are_days = list_all_more is_day c.args.text.now c.loop-i.i 0 c.loop-i-test.true ∙ ap (λ b. b && is_day (get_or c.args.text.now c.loop-i.i 0)) c.loop-i.invariant.are_days ∙ day;
      told = more_told c.loop-i.days c.args.text.now c.loop-i.i (omega arith) c.loop-i-test.true c.loop-i.invariant.told;
    }

all_told : (days : List Bool) (text : List ℕ) (i : ℕ) → length days ≡ 7 → length text ≡ 7 → length text ≤ i → list_all is_day (take i text) ≡ true → take i days ≡ map (λ b. b == 49) (take i text) → Some days ≡ days_of text
all_told days text i seven as_many past are told =
    let whole : take i text ≡ text = take_all i text past in
    let each : list_all is_day text ≡ true = ap (list_all is_day) (sym whole) ∙ are in
    let same : days ≡ map (λ b. b == 49) text = sym (take_all i days (omega arith)) ∙ told ∙ ap (map (λ (b : ℕ). b == 49)) whole in
    let counted : (length text == 7) ≡ true = ap (λ (n : ℕ). n == 7) as_many in
    rw (counted, each) (ap Some same)

pub returns : goal.returns
returns c = all_told c.loop-i.days c.args.text.now c.loop-i.i c.loop-i.invariant.seven (omega arith) c.loop-i-test.false c.loop-i.invariant.are_days c.loop-i.invariant.told
