use Rattle.std.proofs.Common.{◌∙◌, ◌&&◌, sym, ap, List, ℕ}
use Rattle.iris_tree.specs.Document.{Place}
use Rattle.iris_xpath.specs.Meaning.{is_reached, passes}
use Rattle.iris_xpath.specs.Places.{element_at}
use Rattle.iris_need.specs.Walk.{path_of}
use Rattle.iris_need.proofs.ElementPaths.{path_kept, path_left}
use Rattle.iris_need.proofs.elements.add_reached.Goals as goal

pub returns-then-not-goes_to : goal.returns-then-not-goes_to
returns-then-not-goes_to c =
    let test = λ (path : Place). is_reached c.args.step.now.separator (path_of c.args.above.now) path && passes (element_at c.args.local.now path) c.args.step.now.test in
    path_left test c.args.path c.args.reached.now.items (ap (λ (p : List ℕ). test (path_of p)) (sym c.as_slice.ensures) ∙ sym c.goes_to.ensures ∙ c.if-not-goes_to.true)

pub returns : goal.returns
returns c =
    let test = λ (path : Place). is_reached c.args.step.now.separator (path_of c.args.above.now) path && passes (element_at c.args.local.now path) c.args.step.now.test in
    path_kept test c.args.path c.args.reached.now.items c.push.new.self.items (ap (λ (p : List ℕ). test (path_of p)) (sym c.as_slice.ensures) ∙ sym c.goes_to.ensures ∙ c.if-not-goes_to.false) c.in_ok-push.ensures.items
