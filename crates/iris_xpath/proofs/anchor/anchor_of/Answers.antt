use Rattle.std.proofs.Common.{subst}
use Rattle.iris_xpath.specs.Anchor.{HasNoId}
use Rattle.iris_xpath.proofs.Anchors.{no_anchor}
use Rattle.iris_xpath.proofs.anchor.anchor_of.Goals as goal

pub returns-in-None-first_id : goal.returns-in-None-first_id
returns-in-None-first_id c = no_anchor c.args.step.now (subst HasNoId c.as_slice.ensures c.in-None-first_id.ensures)
