use Rattle.std.proofs.Common.{◌≡◌, sym, subst, rules, ◌∷◌}
use Rattle.std.proofs.lemmas.List.{nil_from_length}
use Rattle.iris_tree.specs.Universe.{Nodes, AreOrdered}
use Rattle.iris_tree.proofs.Siblings.{labels_sorted}
use Rattle.iris_tree.proofs.WithLocals.{put_view_here, no_part, no_put, put_child, part_found, put_view_below, all_ordered_kept}
use Rattle.iris_tree.proofs.tree.Tree.+set_local_below.Goals as goal

pub returns-in_default-clause-put : goal.returns-in_default-clause-put
returns-in_default-clause-put t c =
    put_view_here _ _ _ _ _ _ c.self.view_is (nil_from_length _ c.in_default.ensures.cases)

pub search-requires : goal.search-requires
search-requires t c = rw c.deref.ensures.value (labels_sorted c.self.inside.nodes.items c.self.invariant)

pub returns-in_default-search-clause-found : goal.returns-in_default-search-clause-found
returns-in_default-search-clause-found t c =
    let path : c.args.below.now ≡ c.in-Some.label.now ∷ c.in-Some.rest.now = search rules in
    no_part _ _ _ _ _ _ _ _ c.self.view_is c.deref.ensures.value path c.in_default-search.ensures.absent.1

pub returns-in_default-search-clause-put : goal.returns-in_default-search-clause-put
returns-in_default-search-clause-put t c =
    let path : c.args.below.now ≡ c.in-Some.label.now ∷ c.in-Some.rest.now = search rules in
    no_put _ _ _ _ _ c.args.local _ _ _ c.self.view_is c.deref.ensures.value path c.in_default-search.ensures.absent.1

pub invariant_of-self-2 : goal.invariant_of-self-2
invariant_of-self-2 t c =
    subst (λ (ns : Nodes). AreOrdered ns)
    (sym (put_child _ _ _ _ c.args.local _ _ _ c.self.invariant c.deref.ensures.value c.in-Ok.ensures.found.0 c.in-Ok.ensures.found.1 c.index_mut-child.ensures.value c.set_local_below.ensures.put))
    (all_ordered_kept _ _ c.self.invariant)

pub returns-clause-found : goal.returns-clause-found
returns-clause-found t c =
    let path : c.args.below.now ≡ c.in-Some.label.now ∷ c.in-Some.rest.now = search rules in
    part_found _ _ _ _ _ _ _ _ _ _ _ c.self.view_is c.deref.ensures.value path c.in-Ok.ensures.found.1 c.index_mut-child.ensures.value c.set_local_below.ensures.found

pub returns-clause-put : goal.returns-clause-put
returns-clause-put t c =
    let path : c.args.below.now ≡ c.in-Some.label.now ∷ c.in-Some.rest.now = search rules in
    put_view_below _ _ _ _ _ c.args.local _ _ _ c.self.view_is path
    (put_child _ _ _ _ c.args.local _ _ _ c.self.invariant c.deref.ensures.value c.in-Ok.ensures.found.0 c.in-Ok.ensures.found.1 c.index_mut-child.ensures.value c.set_local_below.ensures.put)
