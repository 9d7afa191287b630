use Rattle.std.proofs.Common.{rules, ◌≡◌, ◌∙◌, sym, ap, subst, List, map, take, take_all}
use Rattle.iris_tree.specs.declared.plain.Plain.{Plain}
use Rattle.iris_tree.specs.declared.plain.Plain.TheViews.{out-Plain}
use Rattle.iris_tree.specs.PlainOrder.{IsCanonicalPlain, in_text_order, canonical_plain}
use Rattle.iris_tree.proofs.Canonical.{canonical_parts, is_canonical}
use Rattle.iris_tree.proofs.plain.Plain.+canonical.Goals as goal

pub returns-clause-canonical : goal.returns-clause-canonical
returns-clause-canonical t c =
    let attrs : c.in_ok-copy.field-0 ≡ (out-Plain c.args.self.now).attrs = search rules in
    let text : c.in_ok-copy-2.field-0 ≡ (out-Plain c.args.self.now).text = search rules in
    let all : take c.loop-kid.kid-index c.as_slice-kid-items.result.now ≡ (out-Plain c.args.self.now).kids = take_all _ _ c.loop-kid-test.false ∙ c.as_slice-kid-items.ensures in
    let kids = c.in_ok-siblings.ensures.is ∙ ap in_text_order c.loop-kid.invariant ∙ ap (λ (ps : List Plain). in_text_order (map canonical_plain ps)) all in
    subst (λ (p : Plain). IsCanonicalPlain p) (sym (canonical_parts c.args.self.now _ _ _ attrs text kids)) (is_canonical c.args.self.now)
