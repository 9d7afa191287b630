use Rattle.std.proofs.Common.{◌≡◌, ◌∙◌, sym, rules, ◌++◌, ◌∷◌, [], map}
use Rattle.std.specs.Map.Iter.{deref_pair}
use Rattle.std.proofs.lemmas.Map.Iter.{rest_so_far}
use Rattle.std.proofs.lemmas.List.{map-append}
use Rattle.iris_gather.proofs.Numbered.{copied_more}
use Rattle.iris_gather.proofs.gather.copy_asks.Goals as goal

pub loop-ask-preserved-in_ok-insert : goal.loop-ask-preserved-in_ok-insert
loop-ask-preserved-in_ok-insert c =
    let all : c.args.asks.now.entries ≡ map deref_pair c.loop-ask.yielded ++ c.loop-ask.ask-iterator = search (rules, rest_so_far) in
    let left : c.loop-ask.ask-iterator ≡ (c.in-Some.ask.now, c.in-Some.need.now) ∷ c.next.new.self = search rules in
    copied_more c.args.asks.now.entries (map deref_pair c.loop-ask.yielded) c.loop-ask.ask-iterator c.next.new.self c.insert.new.self.entries c.loop-ask.copy.entries c.in-Some.ask.now c.in-Some.ask.now c.in-Some.need.now c.in_ok-copy.field-0
    c.iter-ask-items.ensures.ordered all left c.loop-ask.invariant c.in_ok-insert.ensures.entries (search rules) c.in_ok-copy.ensures ∙ sym (map-append deref_pair c.loop-ask.yielded ((c.in-Some.ask, c.in-Some.need) ∷ []))

pub loop-ask-preserved : goal.loop-ask-preserved
loop-ask-preserved c =
    let all : c.args.asks.now.entries ≡ map deref_pair c.loop-ask.yielded ++ c.loop-ask.ask-iterator = search (rules, rest_so_far) in
    let left : c.loop-ask.ask-iterator ≡ (c.in-Some.ask.now, c.in-Some.need.now) ∷ c.next.new.self = search rules in
    copied_more c.args.asks.now.entries (map deref_pair c.loop-ask.yielded) c.loop-ask.ask-iterator c.next.new.self c.insert.new.self.entries c.loop-ask.copy.entries c.in-Some.ask.now c.in-Some.ask.now c.in-Some.need.now c.in_ok-copy.field-0
    c.iter-ask-items.ensures.ordered all left c.loop-ask.invariant c.in_ok-insert.ensures.entries (search rules) c.in_ok-copy.ensures ∙ sym (map-append deref_pair c.loop-ask.yielded ((c.in-Some.ask, c.in-Some.need) ∷ []))
