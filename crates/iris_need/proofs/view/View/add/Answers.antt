use Rattle.std.proofs.Common.{◌∙◌, sym, ap, refl, subst, List}
use Rattle.std.specs.BTreeMap.{insert_entry}
use Rattle.iris_base.specs.declared.name.Label.{Label}
use Rattle.iris_need.specs.Pieces.{Pieces, AreNamed, with_piece}
use Rattle.iris_need.proofs.Pieces.{names_cmp, named_insert, with_piece_found, with_piece_named}
use Rattle.iris_need.proofs.view.View.add.Goals as goal

pub invariant_of-self-in_default : goal.invariant_of-self-in_default
invariant_of-self-in_default c =
    let same = c.in_ok-insert.ensures.entries ∙ ap (λ m. insert_entry names_cmp m.entries c.in_ok-name.name c.args.piece) c.get_mut.follows.holds-at-none
    ∙ ap (λ (n : List Label). insert_entry names_cmp c.self.inside.map.entries n c.args.piece) c.in_ok-name.ensures in
    subst (λ (es : Pieces). AreNamed es) (sym same) (named_insert c.self.inside.map.entries c.args.piece.name c.args.piece c.self.invariant refl)

pub invariant_of-self-2 : goal.invariant_of-self-2
invariant_of-self-2 c =
    let same = with_piece_found c.self.inside.map.entries _ c.args.piece c.in-Some.held.now c.get_mut.ensures.ordered (sym c.in-Some.ensures.value)
    ((c.get_mut.follows.holds _).0 ∙ rw c.keep_first.ensures refl) in
    subst (λ (es : Pieces). AreNamed es) (sym same) (with_piece_named c.self.inside.map.entries c.args.piece c.self.invariant)

pub returns-clause-ok : goal.returns-clause-ok
returns-clause-ok c =
    with_piece_found c.self.inside.map.entries _ c.args.piece c.in-Some.held.now c.get_mut.ensures.ordered (sym c.in-Some.ensures.value)
    ((c.get_mut.follows.holds _).0 ∙ rw c.keep_first.ensures refl)
    ∙ ap (λ (es : Pieces). with_piece es c.args.piece) c.self.view_is
