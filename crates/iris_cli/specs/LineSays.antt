-- What a line of a script after the first says, and why a line says nothing.
use Rattle.std.specs.Prelude.{◌≡◌, ◌⊎◌, ℕ, List, Option, Some, None}
use Rattle.iris_json.specs.declared.line.Line.TheVariants as lines
use Rattle.iris_json.specs.declared.line.LineError.{LineError}
use Rattle.iris_json.specs.declared.out.QueryFault.{QueryFault}
use Rattle.iris_json.specs.declared.out.QueryFault.TheVariants as faults
use Rattle.iris_json.specs.Lines.{ReadsLine, RefusesLine}
use Rattle.iris_xpath.specs.declared.error.QueryError.{QueryError}
use Rattle.iris_xpath.specs.declared.error.QueryError.TheVariants as errors
use Rattle.iris_xpath.specs.ErrorWords.{part_word, limit_word}
use Rattle.iris_xpath.specs.Trees.{named}
use Rattle.iris_xpath.specs.Told.{Found, Told}
use Rattle.iris_cli.specs.declared.event.Event.{Event}
use Rattle.iris_cli.specs.declared.event.Event.TheVariants as events
use Rattle.iris_cli.specs.declared.event.Sent.TheVariants as sent
use Rattle.iris_cli.specs.declared.halt.Halt.{Halt}
use Rattle.iris_cli.specs.declared.halt.Halt.TheVariants.{ReadFault, WriteFault, BadLine, Limit, Memory}
use Rattle.iris_cli.specs.Halt.{of_line}
use Rattle.iris_cli.specs.Served.{IsUnservedLine, not_served}

-- what a line tells of a text that is no query
abbrev pub fault_of : QueryError → Option QueryFault
fault_of (errors.Syntax at) = Some (faults.Syntax at)
fault_of (errors.Outside at what) = Some (faults.Outside at (part_word what))
fault_of (errors.TooLarge which) = Some (faults.TooLarge (limit_word which))
fault_of errors.Memory = None

-- the text is no query with names of these kinds, and that is why
abbrev pub IsRefusedText : List (List ℕ) → List ℕ → QueryFault → Type 0
IsRefusedText kinds text why = (error : QueryError) × Told (named kinds) text error × (fault_of error ≡ Some why)

-- the line posts what this text asks, with any bound: the one agent owns all nodes, so their values are of the present moment
abbrev pub PostsQuery : List ℕ → List ℕ → Type 0
PostsQuery line text = (bound : Option ℕ) × ReadsLine line (lines.Query text bound)

-- the line asks for what this text selects, at once or as it is delivered
abbrev pub AsksFor : List ℕ → List ℕ → Type 0
AsksFor line text = PostsQuery line text ⊎ ReadsLine line (lines.Audit text)

-- the line is one of a script, and says this, with queries of these kinds
abbrev pub LineSays : List (List ℕ) → List ℕ → Event → Type 0
LineSays kinds line (events.Post (sent.Query query)) = (text : List ℕ) × PostsQuery line text × Found (named kinds) text query
LineSays kinds line (events.Post (sent.Update update)) = ReadsLine line (lines.Update update.name update.no update.changes)
LineSays kinds line (events.Audit query) = (text : List ℕ) × ReadsLine line (lines.Audit text) × Found (named kinds) text query
LineSays kinds line (events.BadQuery why) = (text : List ℕ) × AsksFor line text × IsRefusedText kinds text why
LineSays kinds line (events.Now at) = ReadsLine line (lines.Now at)
LineSays kinds line events.Settle = ReadsLine line lines.Settle

-- the line is none of a script
abbrev pub IsNoEvent : List (List ℕ) → List ℕ → Type 0
IsNoEvent kinds line = (event : Event) → LineSays kinds line event → ⊥

-- what is told of a line that says nothing: what it lacks to be a line, or, where it is one that is not served yet, that it is of no form
abbrev pub IsToldOf : List ℕ → Halt → Type 0
IsToldOf line halt = ((error : LineError) × RefusesLine line error × (of_line error ≡ halt)) ⊎ (IsUnservedLine line × (halt ≡ not_served))

-- the line says nothing, and that is told of it; or there was no memory
abbrev pub RefusesEvent : List (List ℕ) → List ℕ → Halt → Type 0
RefusesEvent kinds line (BadLine why node) = IsNoEvent kinds line × IsToldOf line (BadLine why node)
RefusesEvent kinds line Memory = Unit {0}
RefusesEvent kinds line ReadFault = ⊥
RefusesEvent kinds line WriteFault = ⊥
RefusesEvent kinds line (Limit which count) = ⊥
