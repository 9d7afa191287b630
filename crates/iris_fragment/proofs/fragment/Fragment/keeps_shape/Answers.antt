use Rattle.std.proofs.Common.{◌∙◌, subst}
use Rattle.iris_fragment.specs.Contents.{Contents}
use Rattle.iris_fragment.specs.Shape.{HaveRisingNames, IsRooted}
use Rattle.iris_fragment.proofs.Cities.{held_level, incomplete_is, known_is}
use Rattle.iris_fragment.proofs.fragment.Fragment.keeps_shape.Goals as goal

pub returns-clause-ordered : goal.returns-clause-ordered
returns-clause-ordered c = subst (λ (f : Contents). HaveRisingNames f.nodes) c.self.view_is c.as_map.ensures.ordered

pub returns-clause-rooted : goal.returns-clause-rooted
returns-clause-rooted c = subst (λ (f : Contents). IsRooted f.nodes) c.self.view_is c.self.invariant

pub returns-clause-whole : goal.returns-clause-whole
returns-clause-whole c = λ city part.
    record {
      ordered = subst (λ (f : Contents). HaveRisingNames f.nodes) c.self.view_is c.as_map.ensures.ordered;
      rooted = subst (λ (f : Contents). IsRooted f.nodes) c.self.view_is c.self.invariant;
      part = part;
      values = λ name now h. held_level c.args.self.now name _ now ∙ h;
      incomplete = incomplete_is city c.args.self.now part;
      known = known_is city c.args.self.now part;
    }
