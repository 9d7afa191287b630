use Rattle.std.proofs.Common.{◌≤◌, ◌∙◌, sym, ap, arith, Option}
use Rattle.std.specs.Prelude.{option_map}
use Rattle.iris_posts.specs.Posts.{Queue, KeptPost, post_at}
use Rattle.iris_posts.proofs.Numbers.{none_above}
use Rattle.iris_posts.proofs.posts.Posts.made.Goals as goal

pub returns-clause-later : goal.returns-clause-later
returns-clause-later c = λ number later.
    let past : c.self.inside.made ≤ number = omega (arith, later, ap (λ (q : Queue). q.made) c.self.view_is) in
    sym (ap (λ (q : Queue). post_at q number) c.self.view_is) ∙ ap (λ (o : Option KeptPost). option_map (λ (p : KeptPost). p.post) o) (none_above 0 c.self.inside.made c.self.inside.slots.items number c.self.invariant.numbered past)
