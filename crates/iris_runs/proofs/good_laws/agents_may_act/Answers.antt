use Rattle.std.proofs.Common.{◌∙◌}
use Rattle.iris_runs.proofs.Acting.{number_is_free, ask_is_free, each_waits_once, unmet_unserved, handover_fits, may_be_handled, newest_is_owned, owner_owns, may_start, missing_routed, missing_lower}
use Rattle.iris_runs.proofs.BookTies.{last_entered}
use Rattle.iris_runs.proofs.KnownCities.{posted_below, client_open, waited_for}
use Rattle.iris_runs.proofs.KnownSeats.{owner_number}
use Rattle.iris_runs.proofs.good_laws.agents_may_act.Goals as goal

pub returns-clause-free : goal.returns-clause-free
returns-clause-free c = number_is_free

pub returns-clause-free_asks : goal.returns-clause-free_asks
returns-clause-free_asks c = ask_is_free

pub returns-clause-posted : goal.returns-clause-posted
returns-clause-posted c w past good = posted_below w past.accepted good.known

pub returns-clause-clients : goal.returns-clause-clients
returns-clause-clients c w past good a number one request there client = (client_open w past.accepted good.known a number one request there client).0

pub returns-clause-undecided : goal.returns-clause-undecided
returns-clause-undecided c w past good a number one request there client = (client_open w past.accepted good.known a number one request there client).1

pub returns-clause-awaited : goal.returns-clause-awaited
returns-clause-awaited c w past good = waited_for w past.accepted good.known

pub returns-clause-once : goal.returns-clause-once
returns-clause-once c = each_waits_once

pub returns-clause-ask : goal.returns-clause-ask
returns-clause-ask c = unmet_unserved

pub returns-clause-handover : goal.returns-clause-handover
returns-clause-handover c = handover_fits

pub returns-clause-handled : goal.returns-clause-handled
returns-clause-handled c = may_be_handled

pub returns-clause-book : goal.returns-clause-book
returns-clause-book c = newest_is_owned

pub returns-clause-numbered : goal.returns-clause-numbered
returns-clause-numbered c w past good a name number is = owner_number w past.accepted good.known a name number is ∙ last_entered w.history past.accepted name good.entered

pub returns-clause-owned : goal.returns-clause-owned
returns-clause-owned c = owner_owns

pub returns-clause-starts : goal.returns-clause-starts
returns-clause-starts c = may_start

pub returns-clause-routed : goal.returns-clause-routed
returns-clause-routed c = missing_routed

pub returns-clause-fits : goal.returns-clause-fits
returns-clause-fits c = missing_lower
