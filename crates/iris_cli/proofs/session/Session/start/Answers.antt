use Rattle.std.proofs.Common.{refl, ap}
use Rattle.std.proofs.lemmas.Result.{err_from_is_err_and}
use Rattle.iris_cli.specs.Run.{SiteState}
use Rattle.iris_cli.proofs.Refused.{refused_city, unserved_city}
use Rattle.iris_cli.proofs.session.Session.start.Goals as goal

pub returns-in_err-city-clause-refused : goal.returns-in_err-city-clause-refused
returns-in_err-city-clause-refused c =
    let p = err_from_is_err_and c.from_residual.result c.from_residual.ensures.1 in
    rw (p.1, p.2) (refused_city c.args.line.now c.in_err-city.field-0.0 c.in_err-city.ensures.only c.in_err-city.ensures.refused)

pub returns-in_default-clause-refused : goal.returns-in_default-clause-refused
returns-in_default-clause-refused c =
    rw c.bad_line.ensures (unserved_city c.args.line.now c.in_ok-city.city c.in_ok-city.ensures.only c.in_ok-city.ensures.found c.in_default.ensures)

pub returns-clause-starts : goal.returns-clause-starts
returns-clause-starts c =
    let site = c.in_ok-new.ensures in
    record {
      city = c.in_ok-city.city;
      reads = c.in_ok-city.ensures.found;
      served = c.in-Some.ensures;
      kinds_are = ap (λ (s : SiteState). s.kinds) site;
      start_is = ap (λ (s : SiteState). s.history.start) site;
      nothing_accepted = ap (λ (s : SiteState). s.history.entries) site;
      begins = ap (λ (s : SiteState). s.now) site;
      nothing_posted = c.new-2.ensures.items;
      no_posts = refl;
      no_requests = refl;
    }
