use Rattle.std.proofs.Common.{◌≡◌, ◌∙◌, true, false, is_some, take, sym, ap, arith}
use Rattle.iris_route.specs.Titles.{Titles, title_at}
use Rattle.iris_route.proofs.Longest.{upto_here, upto_less}
use Rattle.iris_route.proofs.registry.Registry.longest_prefix.Goals as goal

pub returns-then-is_some : goal.returns-then-is_some
returns-then-is_some c =
    let there : is_some (title_at c.args.self.now (take c.loop-len.len c.args.name.now)) ≡ true =
    ap (λ (ts : Titles). is_some (title_at ts (take c.loop-len.len c.args.name.now))) (sym c.self.view_is) ∙ ap is_some (sym c.get.ensures) ∙ sym c.is_some.ensures ∙ c.if-is_some.true in
    record {
      value = sym (c.loop-len.invariant.same ∙ upto_here c.args.self.now c.args.name.now c.loop-len.len (omega arith) there);
      within = c.loop-len.invariant.within;
    }

pub loop-len-preserved : goal.loop-len-preserved
loop-len-preserved c =
    let there : is_some (title_at c.args.self.now (take c.loop-len.len c.args.name.now)) ≡ false =
    ap (λ (ts : Titles). is_some (title_at ts (take c.loop-len.len c.args.name.now))) (sym c.self.view_is) ∙ ap is_some (sym c.get.ensures) ∙ sym c.is_some.ensures ∙ c.if-is_some.false in
    record {
      within = omega (arith, c.loop-len.invariant.within);
      same = c.loop-len.invariant.same ∙ upto_less c.args.self.now c.args.name.now c.loop-len.len (omega arith) there;
    }
