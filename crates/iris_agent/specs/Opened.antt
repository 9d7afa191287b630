-- The gathers that messages open.
use Rattle.std.specs.Prelude.{ℕ, List, None}
use Rattle.iris_xpath.specs.Syntax.{Syntax}
use Rattle.iris_fragment.specs.Usable.{held_piece}
use Rattle.iris_need.specs.declared.need.Start.{Start}
use Rattle.iris_need.specs.Needs.{from_document}
use Rattle.iris_gather.specs.declared.parent.Parent.TheVariants as parents
use Rattle.iris_gather.specs.Gathers.{Gathering, opened}
use Rattle.iris_agent.specs.declared.turn.Turn.{Turn}
use Rattle.iris_agent.specs.Tables.{Tables}

-- the gather that a client's query opens: it starts at the document
abbrev pub client_gather : Tables → Turn → ℕ → Syntax → ℕ → Gathering
client_gather t turn request query floor = opened turn.next_gather query floor (from_document t.top) None (parents.Client request)

-- the gather that an ask opens: it has the asked piece at once
abbrev pub ask_gather : Tables → Turn → ℕ → List ℕ → Syntax → Start → ℕ → Gathering
ask_gather t turn ask from query start floor = opened turn.next_gather query floor start (held_piece t.cache.contents start.name start.level turn.now) (parents.Ask ask from)
