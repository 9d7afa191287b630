-- The keys of each line of a run stand in the order of their bytes.
use Rattle.std.proofs.Common.{◌≡◌, true, Some, None, refl}
use Rattle.iris_json.specs.declared.out.Out.{Out}
use Rattle.iris_json.specs.declared.out.Out.TheVariants as out
use Rattle.iris_json.specs.declared.out.QueryFault.TheVariants.{Syntax, Outside, TooLarge}
use Rattle.iris_json.specs.Out.{out_row, keys_rise}

pub rising : (line : Out) → keys_rise (out_row line) ≡ true
rising (out.Query post request to) = refl
rising (out.Update post request to) = refl
rising (out.Ask ask level name post states to) = refl
rising (out.Reply ask pieces post to) = refl
rising (out.Handover epoch name post to) = refl
rising (out.Answer answer cites newest request) = refl
rising (out.Offers cites newest offers request) = refl
rising (out.Audit audit request) = refl
rising (out.Accepted accepted request) = refl
rising (out.Gave gave request) = refl
rising (out.Evicted evicted request) = refl
rising (out.Settled settled) = refl
rising (out.Forgot forgot) = refl
rising (out.Owner agent epoch name) = refl
rising (out.Summary summary) = refl
rising (out.BackInTime now) = refl
rising (out.BadQuery (Syntax at) request) = refl
rising (out.BadQuery (Outside at what) request) = refl
rising (out.BadQuery (TooLarge which) request) = refl
rising (out.NoSuchNode None) = refl
rising (out.NoSuchNode (Some request)) = refl
rising (out.NoSuchAgent request) = refl
rising (out.SameOwner request) = refl
rising (out.IsOwned request) = refl
rising (out.Unkept request) = refl
rising (out.Old last request) = refl
rising (out.BadChange at request) = refl
rising (out.InTransit epoch request) = refl
rising (out.Busy opened request) = refl
rising (out.NotHeld status request) = refl
rising (out.NoSuchMessage posted) = refl
rising (out.BadTariff name request) = refl
rising (out.Ended line why None) = refl
rising (out.Ended line why (Some node)) = refl
rising (out.Limit count which) = refl
