use Rattle.std.proofs.Common.{◌≡◌, ◌∙◌, sym, ap, refl, rules, false, List, [], ◌∷◌}
use Rattle.std.proofs.lemmas.List.{nil_from_length}
use Rattle.iris_base.specs.declared.name.Label.{Label}
use Rattle.iris_base.specs.NameOrder.{label_eq}
use Rattle.iris_tree.specs.Universe.{Node, label_of}
use Rattle.iris_tree.specs.Document.{with_local, local_put}
use Rattle.iris_tree.proofs.WithLocals.{locals_kept, not_put}
use Rattle.iris_tree.proofs.tree.Tree.set_local.Goals as goal

pub returns-in_default-clause-put : goal.returns-in_default-clause-put
returns-in_default-clause-put c =
    let none : c.args.name.now ≡ [] = sym c.as_slice.ensures ∙ nil_from_length _ c.in_default.ensures.cases in
    sym (ap (λ (name : List Label). with_local c.args.self.now name c.args.local) none ∙ locals_kept c.args.self.now (local_put [] c.args.local) (λ l m old. refl))

pub returns-then-ne-clause-put : goal.returns-then-ne-clause-put
returns-then-ne-clause-put c =
    let path : c.args.name.now ≡ c.in-Some.label.now ∷ c.in-Some.below.now = search rules in
    let unlike : label_eq c.self.inside.label c.in-Some.label.now ≡ false = search rules in
    let other : label_eq (label_of c.args.self.now) c.in-Some.label.now ≡ false = ap (λ (n : Node). label_eq (label_of n) c.in-Some.label.now) (sym c.self.view_is) ∙ unlike in
    sym (ap (λ (name : List Label). with_local c.args.self.now name c.args.local) path ∙ not_put c.args.self.now _ _ c.args.local other)
