use Rattle.std.proofs.Common.{◌≡◌, ◌∙◌, sym, rules, ◌++◌, ◌∷◌, [], map}
use Rattle.std.specs.Map.Iter.{deref_pair}
use Rattle.std.proofs.lemmas.Map.Iter.{rest_so_far}
use Rattle.std.proofs.lemmas.List.{map-append}
use Rattle.iris_need.proofs.Pieces.{copied_more}
use Rattle.iris_need.proofs.view.View.copy.Goals as goal

pub loop-name-preserved-in_ok-insert : goal.loop-name-preserved-in_ok-insert
loop-name-preserved-in_ok-insert c =
    let all : c.self.inside.map.entries ≡ map deref_pair c.loop-name.yielded ++ c.loop-name.name-iterator = search (rules, rest_so_far) in
    let left : c.loop-name.name-iterator ≡ (c.in-Some.name.now, c.in-Some.piece.now) ∷ c.next.new.self = search rules in
    copied_more c.self.inside.map.entries (map deref_pair c.loop-name.yielded) c.loop-name.name-iterator c.next.new.self c.insert.new.self.entries c.loop-name.map.entries c.in-Some.name.now c.in_ok-copy.field-0 c.in-Some.piece.now c.in_ok-copy-2.field-0
    c.iter-name-items.ensures.ordered all left c.loop-name.invariant c.in_ok-insert.ensures.entries c.in_ok-copy.ensures c.in_ok-copy-2.ensures ∙ sym (map-append deref_pair c.loop-name.yielded ((c.in-Some.name, c.in-Some.piece) ∷ []))

pub loop-name-preserved-in_ok-insert-2 : goal.loop-name-preserved-in_ok-insert-2
loop-name-preserved-in_ok-insert-2 c =
    let all : c.self.inside.map.entries ≡ map deref_pair c.loop-name.yielded ++ c.loop-name.name-iterator = search (rules, rest_so_far) in
    let left : c.loop-name.name-iterator ≡ (c.in-Some.name.now, c.in-Some.piece.now) ∷ c.next.new.self = search rules in
    copied_more c.self.inside.map.entries (map deref_pair c.loop-name.yielded) c.loop-name.name-iterator c.next.new.self c.insert.new.self.entries c.loop-name.map.entries c.in-Some.name.now c.in_ok-copy.field-0 c.in-Some.piece.now c.in_ok-copy-2.field-0
    c.iter-name-items.ensures.ordered all left c.loop-name.invariant c.in_ok-insert.ensures.entries c.in_ok-copy.ensures c.in_ok-copy-2.ensures ∙ sym (map-append deref_pair c.loop-name.yielded ((c.in-Some.name, c.in-Some.piece) ∷ []))

pub loop-name-preserved : goal.loop-name-preserved
loop-name-preserved c =
    let all : c.self.inside.map.entries ≡ map deref_pair c.loop-name.yielded ++ c.loop-name.name-iterator = search (rules, rest_so_far) in
    let left : c.loop-name.name-iterator ≡ (c.in-Some.name.now, c.in-Some.piece.now) ∷ c.next.new.self = search rules in
    copied_more c.self.inside.map.entries (map deref_pair c.loop-name.yielded) c.loop-name.name-iterator c.next.new.self c.insert.new.self.entries c.loop-name.map.entries c.in-Some.name.now c.in_ok-copy.field-0 c.in-Some.piece.now c.in_ok-copy-2.field-0
    c.iter-name-items.ensures.ordered all left c.loop-name.invariant c.in_ok-insert.ensures.entries c.in_ok-copy.ensures c.in_ok-copy-2.ensures ∙ sym (map-append deref_pair c.loop-name.yielded ((c.in-Some.name, c.in-Some.piece) ∷ []))
