-- A moment is one arrival at most by the clocks of a zone.
use mathlib.Core.HLevel.{is_prop→PathP}
use Rattle.std.proofs.Common.{◌≡◌, ℕ, ℤ, ◌+◌, ◌*◌, ◌<◌, ◌≤◌, ◌+ℤ◌, List, Bool, true, false, if◌then◌else◌, Option, Some, None, option_map, refl, ap, sym, ◌∙◌}
use Rattle.std.proofs.Props.{props}
use Rattle.jiff.specs.Placed.{IsPosixZone}
use Rattle.jiff.specs.Words.{civil_nanos, nanos_of_seconds}
use Rattle.jiff_core.specs.declared.offset.Offset.{Offset}
use Rattle.jiff_core.specs.declared.civil.time.Time.{Time}
use Rattle.jiff_core.specs.Time.{time_nanos}
use Rattle.jiff_core.proofs.DateTimeLemmas.{civil_nanos_injective, time_nanos_injective}
use Rattle.jiff_tz.specs.declared.posix.DayTime.{DayTime}
use Rattle.jiff_tz.specs.declared.posix.Dst.{Dst}
use Rattle.jiff_tz.specs.declared.posix.TimeZone.{TimeZone as PosixRule}
use Rattle.jiff_tz.specs.declared.timezone.TimeZone.{TimeZone}
use Rattle.jiff_tz.specs.declared.timezone.TimeZone.TheVariants.{UTC, Unknown, Fixed, Posix, Tzif}
use Rattle.jiff_tz.specs.PosixRule.{rule_nanos, utc_window, match_some, dst_at_by, in_window}
use Rattle.jiff_core.specs.Calendar.{weekday_number}
use Rattle.jiff_tz.specs.Year.{year_of_nanos}
use Rattle.jiff_tz.specs.PosixRule as rules
use Rattle.jiff_tz.specs.PosixText.{dst_view, tz_view, day_time_view}
use Rattle.jiff_tz.specs.Zone.{offset_at}
use Rattle.iris_base.specs.declared.limits.TheConstants.{MINUTES_A_DAY}
use Rattle.iris_json.specs.declared.find.Arrival.{Arrival}
use Rattle.iris_json.specs.Zones.{IsArrival, nanos_of}

-- a moment of a rule is told by its day and its time
same_nanos : (y : ℤ) (a b : DayTime) (s t : ℤ) → day_time_view a ≡ day_time_view b → s ≡ t → rule_nanos y a s ≡ rule_nanos y b t
unfolding rule_nanos
same_nanos y a b s t days same =
    let dates : a.date ≡ b.date = ap (λ v. v.0) days in
    let times : a.time ≡ b.time = ap (λ v. v.1) days in
    rw (dates, times, same) refl

-- and so is the window of daylight saving time
same_window : (a b : Dst) (y : ℤ) (s t : Offset) → dst_view a ≡ dst_view b → s.seconds ≡ t.seconds → utc_window a y s ≡ utc_window b y t
unfolding utc_window
same_window a b y s t views same =
    let starts : day_time_view a.rule.start ≡ day_time_view b.rule.start = ap (λ v. v.start) views in
    let ends : day_time_view a.rule.end ≡ day_time_view b.rule.end = ap (λ v. v.finish) views in
    let offsets : a.offset.seconds ≡ b.offset.seconds = ap (λ v. v.seconds) views in
    rw (same_nanos y a.rule.start b.rule.start s.seconds t.seconds starts same, same_nanos y a.rule.end b.rule.end a.offset.seconds b.offset.seconds ends offsets, same) refl

-- whether it is daylight saving time or not, the offset is the same
same_either : (s t : Offset) (a b : Dst) (c : Bool) → s.seconds ≡ t.seconds → a.offset.seconds ≡ b.offset.seconds
    → (match_some (if c then Some a else None) s (λ (d : Dst). d.offset)).seconds ≡ (match_some (if c then Some b else None) t (λ (d : Dst). d.offset)).seconds
same_either s t a b true std dst = dst
same_either s t a b false std dst = std

same_by : (s t : Offset) (a b : Option Dst) (n : ℤ) → s.seconds ≡ t.seconds → option_map dst_view a ≡ option_map dst_view b
    → (match_some (dst_at_by s a n) s (λ (d : Dst). d.offset)).seconds ≡ (match_some (dst_at_by t b n) t (λ (d : Dst). d.offset)).seconds
same_by s t None None n same views = same
same_by s t None (Some b) n same views = absurd (cc)
same_by s t (Some a) None n same views = absurd (cc)
same_by s t (Some a) (Some b) n same views =
    let view : dst_view a ≡ dst_view b = cc views in
    let offsets : a.offset.seconds ≡ b.offset.seconds = ap (λ v. v.seconds) view in
    rw (same_window a b (year_of_nanos n) s t view same) (same_either s t a b (in_window (utc_window b (year_of_nanos n) t) n) same offsets)

-- two rules that say the same have one offset at each instant
same_offsets : (a b : PosixRule) (n : ℤ) → tz_view a ≡ tz_view b → (rules.offset_at a n).seconds ≡ (rules.offset_at b n).seconds
same_offsets a b n views =
    let stds : a.std_offset.seconds ≡ b.std_offset.seconds = ap (λ v. v.std_seconds) views in
    let dsts : option_map dst_view a.dst ≡ option_map dst_view b.dst = ap (λ v. v.dst) views in
    same_by a.std_offset b.std_offset a.dst b.dst n stds dsts

-- and so have two zones of one text
one_offset : (text : List ℕ) (a b : TimeZone) (n : ℤ) → IsPosixZone text a → IsPosixZone text b → offset_at a n ≡ offset_at b n
unfolding offset_at
one_offset text (Posix a) (Posix b) n h k = let views : tz_view a ≡ tz_view b = cc (h, k) in same_offsets a b n views
one_offset text (Posix a) UTC n h k = absurd k
one_offset text (Posix a) Unknown n h k = absurd k
one_offset text (Posix a) (Fixed o) n h k = absurd k
one_offset text (Posix a) (Tzif z) n h k = absurd k
one_offset text UTC b n h k = absurd h
one_offset text Unknown b n h k = absurd h
one_offset text (Fixed o) b n h k = absurd h
one_offset text (Tzif z) b n h k = absurd h

-- a moment is one arrival at most
pub arrival_once : (text : List ℕ) (ms : ℕ) (one other : Arrival) → IsArrival text ms one → IsArrival text ms other → one ≡ other
arrival_once text ms one other h k =
    let offsets = one_offset text h.zone k.zone (nanos_of ms) h.is_zone k.is_zone in
    let nanos : civil_nanos h.local ≡ civil_nanos k.local = h.shows ∙ ap (λ o. nanos_of ms +ℤ nanos_of_seconds o) offsets ∙ sym k.shows in
    let parts = civil_nanos_injective h.local k.local nanos in
    let times = time_nanos_injective h.local.time k.local.time parts.1 in
    let weekdays : one.weekday ≡ other.weekday = h.weekday ∙ ap weekday_number parts.0 ∙ sym k.weekday in
    let minutes : one.minute ≡ other.minute = h.minute ∙ rw (times.0, times.1) refl ∙ sym k.minute in
    λ i. record {
      weekday = weekdays i;
      minute = minutes i;
      weekday_fits = is_prop→PathP (λ j. weekdays j ≤ 6) (λ j. hlevel props) one.weekday_fits other.weekday_fits i;
      minute_fits = is_prop→PathP (λ j. minutes j < MINUTES_A_DAY) (λ j. hlevel props) one.minute_fits other.minute_fits i;
    }
