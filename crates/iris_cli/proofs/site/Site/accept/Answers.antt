use Rattle.std.proofs.Common.{refl}
use Rattle.iris_book.specs.declared.entry.Entry.TheVariants.{Updated}
use Rattle.iris_cli.proofs.Sites.{today_kept, past_more}
use Rattle.iris_cli.proofs.site.Site.accept.Goals as goal

pub invariant_of-self-2 : goal.invariant_of-self-2
invariant_of-self-2 c =
    let site = c.self.inside in
    let u = c.args.update in
    let same = c.in_ok-reserve.ensures.history in
    let entry = Updated u.name u.no u.changes c.args.local site.moment in (
      today_kept site.book.history c.reserve.new.self.history c.push.new.self.history entry site.document c.set_local.new.self u.name c.args.local c.self.invariant.0 same (rw c.in_ok-copy.ensures at c.set_local.ensures.put) c.push.ensures.today refl,
      past_more site.book.history c.reserve.new.self.history c.push.new.self.history site.moment u.no u.name u.changes c.args.local c.self.invariant.1 same c.push.ensures.entries,
    )
