use Rattle.std.proofs.Common.{◌≡◌, ◌∙◌, pos, ◌+ℤ◌, ◌*ℤ◌, ap, subst, rules, FitsSigned, w64}
use Rattle.std.proofs.lemmas.Int.{to_z-of_z}
use Rattle.jiff.specs.Words.{civil_nanos, nanos_of_seconds, offset_at}
use Rattle.jiff.specs.Placed.{IsPosixZone}
use Rattle.jiff.specs.ZoneView.{plain_zone}
use Rattle.iris_json.specs.Zones.{Shows}
use Rattle.iris_json.proofs.zone.Zone.arrival.Goals as goal

pub returns : goal.returns
returns c =
    let fits : FitsSigned w64 c.as_signed.result = search rules in
    let moment = simp to_z-of_z at c.in-Ok.ensures.value in
    let shows : Shows (plain_zone c.self.inside.rule) c.args.ms c.to_datetime.result =
    subst (λ n. civil_nanos c.to_datetime.result ≡ n +ℤ nanos_of_seconds (offset_at (plain_zone c.self.inside.rule) n)) (moment ∙ ap (λ z. z *ℤ pos 1_000_000) c.as_signed.ensures) c.to_datetime.ensures in
    record {
      zone = plain_zone c.self.inside.rule;
      local = c.to_datetime.result;
      is_zone = subst (λ text. IsPosixZone text (plain_zone c.self.inside.rule)) c.self.view_is c.self.invariant;
      shows = shows;
      weekday = c.arrival_at.ensures.weekday;
      minute = c.arrival_at.ensures.minute;
    }
