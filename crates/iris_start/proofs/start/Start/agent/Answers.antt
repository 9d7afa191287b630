use Rattle.std.proofs.Common.{◌≡◌, ◌∙◌, List, ap}
use Rattle.std.proofs.lemmas.Result.{IfOk-weaker}
use Rattle.iris_base.specs.declared.name.Label.{Label}
use Rattle.iris_agent.specs.Starts.{started}
use Rattle.iris_agent.specs.Tables.{Tables, tables_of}
use Rattle.iris_start.proofs.Begun.{IsGiven, given_is, pieces_begun, begun_cache, agent_begun}
use Rattle.iris_start.proofs.start.Start.agent.Goals as goal

pub new-requires-clause-pieces : goal.new-requires-clause-pieces
new-requires-clause-pieces c =
    let s = c.args.self.now in
    let given : IsGiven s.registry.now s.book.now.history c.args.id s.document.now c.deref.result.now =
    given_is s.registry.now s.book.now.history c.args.id s.document.now c.deref.result.now c.put_pieces.new.pieces.items c.new-pieces.result.items c.document-above.result
    c.deref.ensures.value c.in_ok-put_pieces.ensures.pieces c.new-pieces.ensures.items c.document-above.ensures
    c.requires.document c.in_ok-put_pieces.ensures.ordered c.tell_types.ensures.sound c.requires.registered c.tell_types.ensures.named in
    pieces_begun s.registry.now s.book.now.history c.args.id s.document.now c.deref.result.now c.args.capacity c.label-top.result.now given

pub returns-clause-begun : goal.returns-clause-begun
returns-clause-begun c =
    let s = c.args.self.now in
    let given : IsGiven s.registry.now s.book.now.history c.args.id s.document.now c.deref.result.now =
    given_is s.registry.now s.book.now.history c.args.id s.document.now c.deref.result.now c.put_pieces.new.pieces.items c.new-pieces.result.items c.document-above.result
    c.deref.ensures.value c.in_ok-put_pieces.ensures.pieces c.new-pieces.ensures.items c.document-above.ensures
    c.requires.document c.in_ok-put_pieces.ensures.ordered c.tell_types.ensures.sound c.requires.registered c.tell_types.ensures.named in
    IfOk-weaker c.new.result _ _
    (λ agent is. agent_begun s.registry.now s.book.now.history s.rows.now c.args.id c.args.kinds c.args.capacity s.document.now c.deref.result.now (tables_of agent) given
    (is ∙ ap (λ (top : Label). started c.args.id c.args.kinds top c.args.capacity c.deref.result.now s.rows.now) c.label-top.ensures))
    c.new.ensures

pub returns-clause-tables : goal.returns-clause-tables
returns-clause-tables c =
    let s = c.args.self.now in
    let given : IsGiven s.registry.now s.book.now.history c.args.id s.document.now c.deref.result.now =
    given_is s.registry.now s.book.now.history c.args.id s.document.now c.deref.result.now c.put_pieces.new.pieces.items c.new-pieces.result.items c.document-above.result
    c.deref.ensures.value c.in_ok-put_pieces.ensures.pieces c.new-pieces.ensures.items c.document-above.ensures
    c.requires.document c.in_ok-put_pieces.ensures.ordered c.tell_types.ensures.sound c.requires.registered c.tell_types.ensures.named in
    IfOk-weaker c.new.result _ _ (λ agent is. is ∙ (λ i. started c.args.id c.args.kinds (c.label-top.ensures i) c.args.capacity (given.pieces_are i) s.rows.now)) c.new.ensures

pub returns-clause-kinds : goal.returns-clause-kinds
unfolding tables_of
returns-clause-kinds c = IfOk-weaker c.new.result _ _ (λ agent is. ap (λ (t : Tables). t.kinds) is) c.new.ensures

pub returns-clause-capacity : goal.returns-clause-capacity
unfolding tables_of
returns-clause-capacity c =
    let s = c.args.self.now in
    let given : IsGiven s.registry.now s.book.now.history c.args.id s.document.now c.deref.result.now =
    given_is s.registry.now s.book.now.history c.args.id s.document.now c.deref.result.now c.put_pieces.new.pieces.items c.new-pieces.result.items c.document-above.result
    c.deref.ensures.value c.in_ok-put_pieces.ensures.pieces c.new-pieces.ensures.items c.document-above.ensures
    c.requires.document c.in_ok-put_pieces.ensures.ordered c.tell_types.ensures.sound c.requires.registered c.tell_types.ensures.named in
    IfOk-weaker c.new.result _ _
    (λ agent is.
    ap (λ (t : Tables). t.cache.capacity) (is ∙ ap (λ (top : Label). started c.args.id c.args.kinds top c.args.capacity c.deref.result.now s.rows.now) c.label-top.ensures)
    ∙ (begun_cache s.registry.now s.book.now.history 0 c.args.id s.document.now c.deref.result.now c.args.capacity given).capacity)
    c.new.ensures
