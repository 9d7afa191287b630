-- What a session stands for.
use Rattle.std.specs.Prelude.{◌≤◌}
use Rattle.iris_base.specs.declared.limits.TheConstants.{MAX_LINES}
use Rattle.iris_cli.specs.declared.session.Session.{Session}
use Rattle.iris_cli.specs.Run.{World}

-- the city of a session
abbrev pub world_of : Session → World
world_of s = record { agent = s.agent; site = s.site; posted = s.posted.items; posts = s.posts; requests = s.requests }

-- no more posts than requests were made, and no more of these than a script has lines, so that each has a number
abbrev pub HasNumbers : World → Type 0
HasNumbers w = (w.posts ≤ w.requests) × (w.requests ≤ MAX_LINES)
