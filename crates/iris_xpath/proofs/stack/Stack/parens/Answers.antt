use Rattle.std.proofs.Common.{refl, sym, ◌∙◌, ap, length}
use Rattle.iris_xpath.specs.Parens.{parens_in}
use Rattle.iris_xpath.proofs.Stacks.{frames_first, frames_paren, frames_bracket, frames_end}
use Rattle.iris_xpath.proofs.stack.Stack.parens.Goals as goal

pub frames-init : goal.frames-init
frames-init c =
    frames_first (parens_in c.args.self.now) _ c.args.self.now c.self.inside.frames.items c.as_slice-rest.result.now (sym c.self.view_is) c.as_slice-rest.ensures.value (c.len-total.ensures ∙ sym c.as_slice-rest.ensures.len ∙ ap length c.as_slice-rest.ensures.value) refl

pub frames-preserved : goal.frames-preserved
frames-preserved c =
    let a = c.in-Some.ensures in
    frames_paren _ _ _ _ _ _ _ a.cases.0 c.in-Paren.is c.frames.invariant.0 c.frames.invariant.1

pub returns-in-Bracket : goal.returns-in-Bracket
returns-in-Bracket c =
    let a = c.in-Some.ensures in
    frames_bracket (parens_in c.args.self.now) _ _ _ _ _ _ a.cases.0 c.in-Bracket.is c.frames.invariant.0

pub returns : goal.returns
returns c =
    let a = c.in_default.ensures in
    frames_end (parens_in c.args.self.now) _ _ a.cases c.frames.invariant.0
