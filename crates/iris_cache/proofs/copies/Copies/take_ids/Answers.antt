use Rattle.std.proofs.Common.{refl, ◌∙◌}
use Rattle.iris_cache.proofs.Completeness.{stays_kept, ids_not_placed}
use Rattle.iris_cache.proofs.copies.Copies.take_ids.Goals as goal

pub invariant_of-self-2 : goal.invariant_of-self-2
invariant_of-self-2 c =
    stays_kept c.self.inside.fragment c.take_in.new.self c.self.inside.recency.order c.self.inside.recency.order c.args.piece (ids_not_placed c.self.inside.fragment c.args.piece c.requires) c.self.invariant c.in_ok-placed.ensures.ok refl

pub returns-clause-none : goal.returns-clause-none
returns-clause-none c = c.in_ok-placed.ensures.placed ∙ ids_not_placed c.self.inside.fragment c.args.piece c.requires
