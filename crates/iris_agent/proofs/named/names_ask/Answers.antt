use Rattle.std.proofs.Common.{ℕ, Bool, true, false, inr, MatchBool}
use Rattle.iris_migrate.specs.Titles.{Seats}
use Rattle.iris_gather.specs.OpenGathers.{OpenGathers, names, AnyGather, NoGather}
use Rattle.iris_agent.specs.NamedAsks.{ParksNoAsk, NamesAsk, NamesNoAsk}
use Rattle.iris_agent.proofs.named.names_ask.Goals as goal

-- where the ask is parked for no node, the open gathers decide
by_gathers : (b : Bool) (seats : Seats) (gathers : OpenGathers) (ask : ℕ) → ParksNoAsk seats ask → MatchBool b (AnyGather (names ask) gathers) (NoGather (names ask) gathers) → MatchBool b (NamesAsk seats gathers ask) (NamesNoAsk seats gathers ask)
by_gathers true seats gathers ask none any = inr any
by_gathers false seats gathers ask none no_one = record { no_message = none; no_gather = no_one }

pub returns-else-is_asked : goal.returns-else-is_asked
returns-else-is_asked c = by_gathers c.names.result c.args.titles.now c.args.gathers.now c.args.ask (c.is_asked.ensures.no c.if-is_asked.false) c.names.ensures
