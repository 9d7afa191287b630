use Rattle.std.proofs.Common.{◌∙◌}
use Rattle.iris_cli.proofs.Sites.{nothing_accepted, no_past}
use Rattle.iris_cli.proofs.site.Site.new.Goals as goal

pub invariant_of-result : goal.invariant_of-result
invariant_of-result c =
    let history = c.in_ok-new.field-0.history in (
      nothing_accepted history c.args.tree (c.in_ok-new.ensures.start ∙ c.in_ok-copy.ensures) c.in_ok-new.ensures.entries,
      no_past history 0 c.in_ok-new.ensures.entries,
    )
