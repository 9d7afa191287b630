-- The lines of a script after the first, as a relation between bytes and lines.
use Rattle.std.specs.Prelude.{◌≡◌, ℕ, List, codes, Option, Some, option_map, Result, Ok, Err}
use Rattle.std.specs.Str.{IsUtf8}
use Rattle.serde_json.specs.Data.{unsigned, Data, number, array, Items}
use Rattle.serde_json.specs.Find.{get}
use Rattle.serde_json.specs.Read.{read}
use Rattle.iris_base.specs.declared.name.Label.{Label}
use Rattle.iris_base.specs.NameText.{name_text, IsName}
use Rattle.iris_tree.specs.declared.change.Change.{Change}
use Rattle.iris_json.specs.Objects.{TextAt, ListAt}
use Rattle.iris_json.specs.ChangeLine.{AreLineChanges}
use Rattle.iris_json.specs.LineTable.{Form, Key, HasLineShape, FitsThere, AllFit}
use Rattle.iris_json.specs.declared.line.Line.{Line}
use Rattle.iris_json.specs.declared.line.Line.TheVariants.{Query, Find as Search, Update, Give, Evict, Audit, Now, Deliver, Settle, Forget, Owner, Summary}
use Rattle.iris_json.specs.declared.line.LineWhy.{LineWhy}
use Rattle.iris_json.specs.declared.line.LineWhy.TheVariants as whys
use Rattle.iris_json.specs.declared.line.LineError.{LineError}
use Rattle.iris_json.specs.declared.line.LineError.TheVariants.{NotJson, BadLine, Memory}

-- the bytes are the JSON text of a value (RFC 8259, as `serde_json` reads it)
abbrev pub IsJson : List ℕ → Data → Type 0
IsJson bytes d = IsUtf8 bytes × (read bytes ≡ Some d)

-- ---- lines

-- what the line does
abbrev pub Does : List ℕ → Data → Type 0
Does word d = TextAt (codes "do") d word

-- a value has that whole number at a key
abbrev pub WholeAt : List ℕ → Data → ℕ → Type 0
WholeAt key d n = get key d ≡ Some (number (unsigned n))

-- a value has that whole number at `bound`, or nothing
abbrev pub BoundAt : Data → Option ℕ → Type 0
BoundAt d bound = get (codes "bound") d ≡ option_map (λ n. number (unsigned n)) bound

-- a value has the text of that name at `name`
abbrev pub NameAt : Data → List Label → Type 0
NameAt d name = IsName name × TextAt (codes "name") d (name_text name)

-- a value has the list of these changes at `change`
pub record ChangesAt (d : Data) (changes : List Change) : Type 0 where
  pub items : Items
  pub list : ListAt (codes "change") d items
  pub are : AreLineChanges items changes

-- what a value says, whose form and parts are right
abbrev pub SaysLine : Data → Line → Type 0
SaysLine d (Query query bound) = Does (codes "query") d × TextAt (codes "query") d query × BoundAt d bound
SaysLine d (Search f) =
    Does (codes "find") d × TextAt (codes "hood") d f.hood × WholeAt (codes "arrive") d f.arrive × WholeAt (codes "stay") d f.stay
    × WholeAt (codes "top") d f.top × BoundAt d f.bound
SaysLine d (Update name n changes) = Does (codes "update") d × NameAt d name × WholeAt (codes "no") d n × ChangesAt d changes
SaysLine d (Give name to) = Does (codes "give") d × NameAt d name × TextAt (codes "to") d to
SaysLine d (Evict agent name) = Does (codes "evict") d × TextAt (codes "agent") d agent × NameAt d name
SaysLine d (Audit query) = Does (codes "audit") d × TextAt (codes "query") d query
SaysLine d (Now at) = Does (codes "now") d × WholeAt (codes "at") d at
SaysLine d (Deliver post) = Does (codes "deliver") d × WholeAt (codes "post") d post
SaysLine d Settle = Does (codes "settle") d
SaysLine d Forget = Does (codes "forget") d
SaysLine d (Owner name) = Does (codes "owner") d × NameAt d name
SaysLine d Summary = Does (codes "summary") d

-- a value is that line: it has the keys of a row of the table, what stands at them is well formed, and it says the line
pub record IsLine (d : Data) (line : Line) : Type 0 where
  pub keys : List Key
  pub shape : HasLineShape d keys
  pub names : AllFit whys.Name keys d
  pub numbers : AllFit whys.Number keys d
  pub changes : AllFit whys.Change keys d
  pub says : SaysLine d line

-- the first of the four that a value is without
abbrev pub LineLacks : LineWhy → Data → Type 0
LineLacks whys.Shape d = (keys : List Key) → HasLineShape d keys → ⊥
LineLacks whys.Name d = (keys : List Key) × HasLineShape d keys × (AllFit whys.Name keys d → ⊥)
LineLacks whys.Number d = (keys : List Key) × HasLineShape d keys × AllFit whys.Name keys d × (AllFit whys.Number keys d → ⊥)
LineLacks whys.Change d =
    (keys : List Key) × HasLineShape d keys × AllFit whys.Name keys d × AllFit whys.Number keys d × (AllFit whys.Change keys d → ⊥)

-- the bytes are a spelling of the line
abbrev pub ReadsLine : List ℕ → Line → Type 0
ReadsLine bytes line = (d : Data) × IsJson bytes d × IsLine d line

-- the bytes are a spelling of the list of these changes
abbrev pub ReadsChanges : List ℕ → List Change → Type 0
ReadsChanges bytes changes = (items : Items) × IsJson bytes (array items) × AreLineChanges items changes

-- ---- what a reader answers

-- a reader gives that, unless there was no memory
abbrev pub Gives : {X : Type 0} → Result X LineError → X → Type 0
Gives (Ok found) x = found ≡ x
Gives (Err NotJson) x = ⊥
Gives (Err (BadLine why)) x = ⊥
Gives (Err Memory) x = Unit {0}

-- a reader gives that line, unless there was no memory
abbrev pub GivesLine : Result Line LineError → Line → Type 0
GivesLine = Gives

-- the error tells what a value lacks, or there was no memory
abbrev pub RefusesValue : Data → LineError → Type 0
RefusesValue d NotJson = ⊥
RefusesValue d (BadLine why) = LineLacks why d
RefusesValue d Memory = Unit {0}

-- the bytes are no JSON, or the error tells what their value lacks, or there was no memory
abbrev pub RefusesLine : List ℕ → LineError → Type 0
RefusesLine bytes NotJson = (d : Data) → IsJson bytes d → ⊥
RefusesLine bytes (BadLine why) = (d : Data) × IsJson bytes d × LineLacks why d
RefusesLine bytes Memory = Unit {0}

-- the bytes are no JSON, or their value is no list of changes, or there was no memory
abbrev pub RefusesChanges : List ℕ → LineError → Type 0
RefusesChanges bytes NotJson = (d : Data) → IsJson bytes d → ⊥
RefusesChanges bytes (BadLine why) = (why ≡ whys.Change) × ((d : Data) × IsJson bytes d × ((changes : List Change) → ReadsChanges bytes changes → ⊥))
RefusesChanges bytes Memory = Unit {0}

-- the error is of that cause and there is nothing to find, or there was no memory
abbrev pub RefusesLinePart : LineWhy → Type 0 → LineError → Type 0
RefusesLinePart why nothing NotJson = ⊥
RefusesLinePart why nothing (BadLine w) = (w ≡ why) × nothing
RefusesLinePart why nothing Memory = Unit {0}

-- what stands there is not as its form asks in what that cause is about, or there was no memory
abbrev pub RefusesPart : LineWhy → Form → Option Data → LineError → Type 0
RefusesPart why form there = RefusesLinePart why (FitsThere why form there → ⊥)
