use Rattle.std.proofs.Common.{◌∙◌, ap}
use Rattle.iris_posts.specs.Posts.{Queue, bytes_of}
use Rattle.iris_posts.proofs.Weighed.{weighed_posts}
use Rattle.iris_posts.proofs.posts.Posts.bytes.Goals as goal

pub returns : goal.returns
returns c = c.self.invariant.bytes_is ∙ weighed_posts c.self.inside.slots.items c.self.invariant.weighed ∙ ap (λ (q : Queue). bytes_of q) c.self.view_is
