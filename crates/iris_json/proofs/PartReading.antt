-- What stands at the keys of a line of a script.
use Rattle.std.proofs.Common.{◌≡◌, ℕ, Bool, true, false, ◌≤◌, List, codes, Option, Some, None, option_and_then, IfSome, refl, ap, sym, ◌∙◌, subst, arith}
use Rattle.std.specs.Map.{lookup}
use Rattle.std.specs.Str.{bytes_eq}
use Rattle.serde_json.specs.Data.{unsigned, Data, null, boolean, number, string, array, object}
use Rattle.serde_json.specs.Find.{as_str, get}
use Rattle.iris_base.specs.declared.limits.TheConstants.{MAX_NUMBER}
use Rattle.iris_base.specs.declared.name.Label.{Label}
use Rattle.iris_base.specs.Forms.{IsId, IsAgentId}
use Rattle.iris_base.specs.NameText.{name_text}
use Rattle.iris_tree.specs.declared.change.Change.{Change}
use Rattle.iris_json.specs.declared.line.LineError.{LineError}
use Rattle.iris_json.specs.declared.line.LineError.TheVariants.{NotJson, BadLine, Memory}
use Rattle.iris_json.specs.declared.line.LineWhy.{LineWhy}
use Rattle.iris_json.specs.declared.line.LineWhy.TheVariants as whys
use Rattle.iris_json.specs.LineTable.{a_name, an_id, an_agent, a_number, a_change_list, Key, line_table, has_keys, HasLineShape, FitsThere, AllFit}
use Rattle.iris_json.specs.Lines.{Does, NameAt, BoundAt, ChangesAt, LineLacks, RefusesValue, RefusesPart}

-- a text at a key is one there
pub text_there : (o : Option Data) (text : List ℕ) → Some text ≡ option_and_then as_str o → o ≡ Some (string text)
text_there None text h = absurd (cc)
text_there (Some null) text h = absurd (cc)
text_there (Some (boolean b)) text h = absurd (cc)
text_there (Some (number m)) text h = absurd (cc)
text_there (Some (string s)) text h = cc
text_there (Some (array ds)) text h = absurd (cc)
text_there (Some (object ms)) text h = absurd (cc)

-- ---- what stands there is as its form asks

pub name_fits : (d : Data) (name : List Label) → NameAt d name → FitsThere whys.Name a_name (get (codes "name") d)
name_fits d name at v there = let e : v ≡ string (name_text name) = cc (at.1, there) in (name_text name, e, (name, at.0, refl))

pub id_fits : (o : Option Data) (text : List ℕ) → o ≡ Some (string text) → IsId text → FitsThere whys.Name an_id o
id_fits o text at is v there = let e : v ≡ string text = cc (at, there) in (text, e, is)

pub agent_fits : (o : Option Data) (text : List ℕ) → o ≡ Some (string text) → IsAgentId text → FitsThere whys.Name an_agent o
agent_fits o text at is v there = let e : v ≡ string text = cc (at, there) in (text, e, is)

pub number_fits : (o : Option Data) (n least most : ℕ) → o ≡ Some (number (unsigned n)) → (least ≤ n) × (n ≤ most) → FitsThere whys.Number (a_number least most) o
number_fits o n least most at range v there = let e : v ≡ number (unsigned n) = cc (at, there) in (n, e, range.0, range.1)

pub bound_fits : (d : Data) (bound : Option ℕ) → BoundAt d bound → IfSome bound (λ b. b ≤ MAX_NUMBER) → FitsThere whys.Number (a_number 0 MAX_NUMBER) (get (codes "bound") d)
bound_fits d None at range v there = absurd (cc (at, there))
bound_fits d (Some b) at range v there = let e : v ≡ number (unsigned b) = cc (at, there) in (b, e, omega arith, range)

pub changes_fit : (d : Data) (changes : List Change) → ChangesAt d changes → FitsThere whys.Change a_change_list (get (codes "change") d)
changes_fit d changes at v there = let e : v ≡ array at.items = cc (at.list, there) in (at.items, changes, e, at.are)

-- ---- a row of the table

-- a value of a known word and its keys
pub shaped : (word : List ℕ) (keys : List Key) (d : Data) (b : Bool) → lookup (bytes_eq word) line_table ≡ Some keys → Does word d → b ≡ has_keys keys d → b ≡ true → HasLineShape d keys
shaped word keys d b row does is yes_ = record { word = word; does = does; row = row; keys_are = sym is ∙ yes_ }

-- a value is of one row
pub rows_agree : (d : Data) (keys others : List Key) → HasLineShape d keys → HasLineShape d others → keys ≡ others
rows_agree d keys others one other =
    let words : one.word ≡ other.word = cc (one.does, other.does) in
    let rows : Some keys ≡ Some others = sym one.row ∙ ap (λ w. lookup (bytes_eq w) line_table) words ∙ other.row in
    cc rows

-- a value whose word's row is not its own
pub not_shaped : (word : List ℕ) (keys : List Key) (d : Data) (b : Bool) → lookup (bytes_eq word) line_table ≡ Some keys → Does word d → b ≡ has_keys keys d → b ≡ false → LineLacks whys.Shape d
not_shaped word keys d b row does is not others shape =
    let words : shape.word ≡ word = cc (shape.does, does) in
    let rows : Some others ≡ Some keys = sym shape.row ∙ ap (λ w. lookup (bytes_eq w) line_table) words ∙ row in
    let same : others ≡ keys = cc rows in
    let have : has_keys keys d ≡ true = subst (λ ks. has_keys ks d ≡ true) same shape.keys_are in
    absurd (cc (have, is, not))

-- a value of no known word
pub no_row : (d : Data) → ((word : List ℕ) → Does word d → lookup (bytes_eq word) line_table ≡ None) → LineLacks whys.Shape d
no_row d none keys shape = absurd (cc (none shape.word shape.does, shape.row))

-- ---- what a part is refused for, the line is

pub name_lacks : (keys : List Key) (d : Data) (k : Key) (e : LineError) → HasLineShape d keys → (AllFit whys.Name keys d → FitsThere whys.Name k.form (get k.key d)) → RefusesPart whys.Name k.form (get k.key d) e → RefusesValue d e
name_lacks keys d k NotJson shape pick h = absurd h
name_lacks keys d k (BadLine w) shape pick h = subst (λ (v : LineWhy). LineLacks v d) (sym h.0) (keys, shape, λ all. h.1 (pick all))
name_lacks keys d k Memory shape pick h = tt

pub number_lacks : (keys : List Key) (d : Data) (k : Key) (e : LineError) → HasLineShape d keys → AllFit whys.Name keys d → (AllFit whys.Number keys d → FitsThere whys.Number k.form (get k.key d)) → RefusesPart whys.Number k.form (get k.key d) e
    → RefusesValue d e
number_lacks keys d k NotJson shape names pick h = absurd h
number_lacks keys d k (BadLine w) shape names pick h = subst (λ (v : LineWhy). LineLacks v d) (sym h.0) (keys, shape, names, λ all. h.1 (pick all))
number_lacks keys d k Memory shape names pick h = tt

pub changes_lack : (keys : List Key) (d : Data) (k : Key) (e : LineError) → HasLineShape d keys → AllFit whys.Name keys d → AllFit whys.Number keys d → (AllFit whys.Change keys d → FitsThere whys.Change k.form (get k.key d))
    → RefusesPart whys.Change k.form (get k.key d) e → RefusesValue d e
changes_lack keys d k NotJson shape names numbers pick h = absurd h
changes_lack keys d k (BadLine w) shape names numbers pick h = subst (λ (v : LineWhy). LineLacks v d) (sym h.0) (keys, shape, names, numbers, λ all. h.1 (pick all))
changes_lack keys d k Memory shape names numbers pick h = tt
