use Rattle.std.proofs.Common.{◌∙◌, ap}
use Rattle.std.specs.Map.{keys_of}
use Rattle.iris_route.specs.Titles.{Titles, title_at}
use Rattle.iris_route.proofs.TitleMaps.{set_told, set_here, set_elsewhere, set_keys, there_from_newer}
use Rattle.iris_route.proofs.registry.Registry.set.Goals as goal

pub returns-clause-titles : goal.returns-clause-titles
returns-clause-titles c = set_told c.set.new.self c.self.inside.titles c.args.self.now c.as_slice.result.now c.args.name.now (c.args.agent, c.args.epoch) c.set.ensures c.as_slice.ensures c.self.view_is

pub returns-clause-title : goal.returns-clause-title
returns-clause-title c =
    ap (λ (ts : Titles). title_at ts c.args.name.now) (returns-clause-titles c) ∙ set_here c.args.self.now c.args.name.now (c.args.agent, c.args.epoch) (there_from_newer (title_at c.args.self.now c.args.name.now) c.args.epoch c.requires)

pub returns-clause-others : goal.returns-clause-others
returns-clause-others c = λ other apart.
    ap (λ (ts : Titles). title_at ts other) (returns-clause-titles c) ∙ set_elsewhere c.args.self.now c.args.name.now other (c.args.agent, c.args.epoch) apart

pub returns-clause-nodes : goal.returns-clause-nodes
returns-clause-nodes c = ap keys_of (returns-clause-titles c) ∙ set_keys c.args.self.now c.args.name.now (c.args.agent, c.args.epoch)
