use Rattle.std.proofs.Common.{ℕ, ap, ◌∙◌, Option, unwrap_or}
use Rattle.iris_fragment.specs.Contents.{Contents}
use Rattle.iris_migrate.specs.Titles.{seat_at}
use Rattle.iris_agent.specs.Moves.{handover_pieces}
use Rattle.iris_agent.specs.Tables.{Holdings}
use Rattle.iris_agent.proofs.GiveTies.{handed}
use Rattle.iris_agent.proofs.agent.Agent.handing_over.Goals as goal

pub returns : goal.returns
returns c =
    let name = c.args.moved.now.name in
    let last = c.unwrap_or.ensures ∙ ap (λ (o : Option ℕ). unwrap_or o 0) (c.last.ensures ∙ ap (λ (h : Holdings). (seat_at h.titles name).last) c.self.view_is) in
    let pieces = c.in_ok-handover_pieces.ensures ∙ ap (λ (f : Contents). handover_pieces f name c.args.turn.now) (c.fragment.ensures ∙ ap (λ (h : Holdings). h.cache.contents) c.self.view_is) in
    handed c.args.self.now c.args.turn c.args.moved.now _ _ _ c.in_ok-copy.ensures last pieces
