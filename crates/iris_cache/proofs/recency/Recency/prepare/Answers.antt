use Rattle.std.proofs.Common.{◌≡◌, ◌^◌, ◌<◌, length, List, Option, Some, None, false, sym, ap, subst, ◌∙◌, rules}
use Rattle.iris_base.specs.declared.name.Label.{Label}
use Rattle.iris_cache.specs.Ready.{is_ready, IsOrderly}
use Rattle.iris_cache.proofs.ReadyNames.{ready_is, not_ready, prepared_alone, prepared_instead, seen, recent}
use Rattle.iris_cache.proofs.recency.Recency.prepare.Goals as goal

pub returns-then-is_ready-clause-ok : goal.returns-then-is_ready-clause-ok
returns-then-is_ready-clause-ok c = ready_is c.args.self.now c.args.name.now (search rules)

pub returns-in_err-key-clause-ready : goal.returns-in_err-key-clause-ready
returns-in_err-key-clause-ready c = λ is.
    let other : is_ready c.args.self.now.ready c.args.name.now ≡ false = search rules in
    absurd (not_ready c.args.self.now c.args.name.now other is)

pub returns-in_err-ready-clause-ready : goal.returns-in_err-ready-clause-ready
returns-in_err-ready-clause-ready c = λ is.
    let other : is_ready c.args.self.now.ready c.args.name.now ≡ false = search rules in
    absurd (not_ready c.args.self.now c.args.name.now other is)

pub returns-in_err-put-clause-ready : goal.returns-in_err-put-clause-ready
returns-in_err-put-clause-ready c = λ is.
    let other : is_ready c.args.self.now.ready c.args.name.now ≡ false = search rules in
    absurd (not_ready c.args.self.now c.args.name.now other is)

pub invariant_of-self-in-Some : goal.invariant_of-self-in-Some
invariant_of-self-in-Some c =
    let name : c.in_ok-key.key ≡ c.args.name.now = c.in_ok-key.ensures in
    let other : is_ready c.args.self.now.ready c.in_ok-key.key ≡ false = rw name (search rules) in
    let was : c.self.inside.ready ≡ Some c.in-Some.old = search rules in
    let fits : length c.self.inside.names.entries < 2 ^ 63 = rw (← c.len.ensures.len) c.len.ensures.fits in
    let made = prepared_instead c.self.inside.names c.put.new.self c.pop.new.self c.self.inside.ready c.args.self.now c.in_ok-key.key c.in-Some.old c.self.view_is c.self.invariant other (rw name c.requires) fits c.in_ok-put.ensures.entries was c.pop.ensures.entries in
    let ready : c.replace.new.self ≡ Some c.in_ok-key.key = c.replace.ensures.after ∙ ap (λ (m : List Label). Some m) (c.in_ok-ready.ensures ∙ sym name) in
    subst (λ (o : Option (List Label)). IsOrderly c.pop.new.self o) (sym ready) made.0

pub invariant_of-self-in_default : goal.invariant_of-self-in_default
invariant_of-self-in_default c =
    let name : c.in_ok-key.key ≡ c.args.name.now = c.in_ok-key.ensures in
    let was : c.self.inside.ready ≡ None = search rules in
    let fits : length c.self.inside.names.entries < 2 ^ 63 = rw (← c.len.ensures.len) c.len.ensures.fits in
    let made = prepared_alone c.self.inside.names c.put.new.self c.self.inside.ready c.args.self.now c.in_ok-key.key c.self.view_is c.self.invariant (rw name c.requires) fits c.in_ok-put.ensures.entries was in
    let ready : c.replace.new.self ≡ Some c.in_ok-key.key = c.replace.ensures.after ∙ ap (λ (m : List Label). Some m) (c.in_ok-ready.ensures ∙ sym name) in
    subst (λ (o : Option (List Label)). IsOrderly c.put.new.self o) (sym ready) made.0

pub returns-in-Some-clause-ok : goal.returns-in-Some-clause-ok
returns-in-Some-clause-ok c =
    let name : c.in_ok-key.key ≡ c.args.name.now = c.in_ok-key.ensures in
    let other : is_ready c.args.self.now.ready c.in_ok-key.key ≡ false = rw name (search rules) in
    let was : c.self.inside.ready ≡ Some c.in-Some.old = search rules in
    let fits : length c.self.inside.names.entries < 2 ^ 63 = rw (← c.len.ensures.len) c.len.ensures.fits in
    let made = prepared_instead c.self.inside.names c.put.new.self c.pop.new.self c.self.inside.ready c.args.self.now c.in_ok-key.key c.in-Some.old c.self.view_is c.self.invariant other (rw name c.requires) fits c.in_ok-put.ensures.entries was c.pop.ensures.entries in
    let ready : c.replace.new.self ≡ Some c.in_ok-key.key = c.replace.ensures.after ∙ ap (λ (m : List Label). Some m) (c.in_ok-ready.ensures ∙ sym name) in
    ap (λ (o : Option (List Label)). seen c.pop.new.self o) ready ∙ made.1 ∙ ap (λ (m : List Label). recent c.args.self.now.order (Some m)) name

pub returns-in_default-clause-ok : goal.returns-in_default-clause-ok
returns-in_default-clause-ok c =
    let name : c.in_ok-key.key ≡ c.args.name.now = c.in_ok-key.ensures in
    let was : c.self.inside.ready ≡ None = search rules in
    let fits : length c.self.inside.names.entries < 2 ^ 63 = rw (← c.len.ensures.len) c.len.ensures.fits in
    let made = prepared_alone c.self.inside.names c.put.new.self c.self.inside.ready c.args.self.now c.in_ok-key.key c.self.view_is c.self.invariant (rw name c.requires) fits c.in_ok-put.ensures.entries was in
    let ready : c.replace.new.self ≡ Some c.in_ok-key.key = c.replace.ensures.after ∙ ap (λ (m : List Label). Some m) (c.in_ok-ready.ensures ∙ sym name) in
    ap (λ (o : Option (List Label)). seen c.put.new.self o) ready ∙ made.1 ∙ ap (λ (m : List Label). recent c.args.self.now.order (Some m)) name
