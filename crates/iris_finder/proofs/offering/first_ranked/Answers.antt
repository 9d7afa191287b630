use Rattle.std.proofs.Common.{rules, ◌≡◌, ◌∙◌, ap, take}
use Rattle.std.specs.List.Sorted.{IsSortedBy}
use Rattle.std.proofs.lemmas.Fn.{always_returns_same}
use Rattle.iris_finder.specs.Offers.{is_before, ranked}
use Rattle.iris_finder.proofs.OfferOrder.{before_weak, ranked_once}
use Rattle.iris_finder.proofs.offering.first_ranked.Goals as goal

pub returns : goal.returns
returns c =
    let up : IsSortedBy is_before c.sort_unstable_by.new.self.items = c.sort_unstable_by.ensures.sorted is_before before_weak (always_returns_same _ _ _ (λ a r f called. search rules)) in
    let is : c.sort_unstable_by.new.self.items ≡ ranked c.args.all.items = ranked_once _ _ c.sort_unstable_by.ensures.permutation up in
    c.from_vec.ensures ∙ c.truncate.ensures.items ∙ ap (take c.args.top) is
