use Rattle.std.proofs.Common.{◌≡◌, ◌≢◌, ◌∙◌, [], List, sym, ap, map}
use Rattle.std.proofs.lemmas.Result.{on_ok_weaker}
use Rattle.iris_base.specs.declared.state.State.{State}
use Rattle.iris_need.specs.declared.need.Need.{Need}
use Rattle.iris_xpath.specs.Syntax.{Syntax, main_of}
use Rattle.iris_need.specs.Program.{gather, enter, own_look, spot_of}
use Rattle.iris_need.proofs.Resumed.{program_at_document, program_at_node, not_so, is_so}
use Rattle.iris_need.proofs.Walked.{adding}
use Rattle.iris_need.proofs.walk.Walk.evaluate.Goals as goal

pub returns-then-is_document : goal.returns-then-is_document
returns-then-is_document c =
    let none : c.in_ok-name.name ≡ [] = is_so c.is_document.result (c.in_ok-name.name ≡ []) c.is_document.ensures c.if-is_document.true in
    on_ok_weaker c.resume_all.result (λ h. h
    ∙ ap (λ (q : Syntax). adding c.args.self.now c.args.needs.now (gather (enter c.args.self.now.top (map main_of q) (spot_of c.in_ok-name.name)) c.as_slice-states.result.now)) c.steps-steps.ensures.value
    ∙ ap (λ (ss : List State). adding c.args.self.now c.args.needs.now (gather (enter c.args.self.now.top (map main_of c.args.query.now) (spot_of c.in_ok-name.name)) ss)) c.as_slice-states.ensures
    ∙ program_at_document c.args.self.now c.args.needs.now c.args.query.now c.args.start.now c.in_ok-name.name c.requires.top (sym c.in_ok-name.ensures ∙ none) c.in_ok-name.ensures) c.resume_all.ensures

pub returns : goal.returns
returns c =
    let node : c.args.start.now.name ≢ [] = λ none. not_so c.is_document.result (c.in_ok-name.name ≡ []) c.is_document.ensures c.if-is_document.false (c.in_ok-name.ensures ∙ none) in
    on_ok_weaker c.resume_all-2.result (λ h. h
    ∙ ap (λ (ns : List Need). adding c.args.self.now ns (gather (enter c.args.self.now.top (map main_of c.steps-steps.result.now) (spot_of c.in_ok-name.name)) c.as_slice-states.result.now)) c.in_ok-look_at_start.ensures
    ∙ ap (λ (q : Syntax). adding c.args.self.now (adding c.args.self.now c.args.needs.now (own_look c.in_ok-name.name c.args.start.now.level)) (gather (enter c.args.self.now.top (map main_of q) (spot_of c.in_ok-name.name)) c.as_slice-states.result.now)) c.steps-steps.ensures.value
    ∙ ap (λ (ss : List State). adding c.args.self.now (adding c.args.self.now c.args.needs.now (own_look c.in_ok-name.name c.args.start.now.level)) (gather (enter c.args.self.now.top (map main_of c.args.query.now) (spot_of c.in_ok-name.name)) ss)) c.as_slice-states.ensures
    ∙ program_at_node c.args.self.now c.args.needs.now c.args.query.now c.args.start.now c.in_ok-name.name c.requires.top node c.in_ok-name.ensures) c.resume_all-2.ensures
