use Rattle.std.proofs.Common.{Bool, true, sym, ap, ◌∙◌, if◌then◌else◌}
use Rattle.iris_outbox.specs.Requests.{is_closed}
use Rattle.iris_state.specs.Whole.{Whole, world_of}
use Rattle.iris_state.proofs.Judging.{judged_query, judged_update}
use Rattle.iris_state.proofs.state.State.is_over.Goals as goal

pub returns-then-is_closed : goal.returns-then-is_closed
unfolding world_of
returns-then-is_closed c =
    let closed = c.is_closed.ensures ∙ ap (λ (o : Whole). is_closed o.requests c.in-Query.request) c.self.view_is in
    let serving = c.serves-serving.result in
    judged_query c.args.self.now c.args.message.now c.in-Query.request _ _ _ _ serving c.is_closed.result c.requires c.in-Query.is c.serves-serving.ensures
    (c.if-is_closed.true ∙ sym (ap (λ (b : Bool). if b then true else serving) (sym closed ∙ c.if-is_closed.true)))

pub returns-else-is_closed : goal.returns-else-is_closed
unfolding world_of
returns-else-is_closed c =
    let closed = c.is_closed.ensures ∙ ap (λ (o : Whole). is_closed o.requests c.in-Query.request) c.self.view_is in
    let serving = c.serves-serving.result in
    judged_query c.args.self.now c.args.message.now c.in-Query.request _ _ _ _ serving serving c.requires c.in-Query.is c.serves-serving.ensures
    (sym (ap (λ (b : Bool). if b then true else serving) (sym closed ∙ c.if-is_closed.false)))

pub returns-in-Update : goal.returns-in-Update
unfolding world_of
returns-in-Update c =
    judged_update c.args.self.now c.args.message.now c.in-Update.request _ _ _ _ c.is_closed-in-Update.result c.in-Update.is
    (c.is_closed-in-Update.ensures ∙ ap (λ (o : Whole). is_closed o.requests c.in-Update.request) c.self.view_is)
