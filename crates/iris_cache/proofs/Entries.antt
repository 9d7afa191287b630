-- The entries of the kit's cache, as an order of names.
use Rattle.std.proofs.Common.{◌≡◌, ℕ, zero, suc, ◌-◌, Bool, true, false, cond, not, ◌||◌, if◌then◌else◌, List, [], ◌∷◌, length, take, Option, Some, None, is_some, option_map, refl, sym, ap, subst, ◌∙◌}
use Rattle.std.specs.Prelude.{slice_get}
use Rattle.std.specs.Option.{option_map_or}
use Rattle.std.specs.List.{IsDistinct}
use Rattle.std.specs.Map.{keys_of, lookup, lookup_entry, remove_entry}
use Rattle.std.proofs.lemmas.Map.Keys.{IsDistinct-tail}
use Rattle.std.proofs.lemmas.Map.Entries.{length-keys_of}
use Rattle.lru.specs.LruCache.{promoted, last_entry}
use Rattle.iris_base.specs.declared.name.Label.{Label}
use Rattle.iris_fragment.proofs.Names.{alike_exact}
use Rattle.iris_cache.specs.Order.{Order, lists, without, in_front, last_of}
use Rattle.iris_cache.proofs.Orders.{alike, without_absent, absent_head}

-- the entries under names
abbrev pub Entries : Type 0
Entries = List (List Label × Unit {0})

removed_first : (b : Bool) (n : List Label) (e : List Label × Unit {0}) (es : Entries) → alike n e.0 ≡ b → lists (keys_of es) e.0 ≡ false → keys_of (remove_entry (alike n) es) ≡ without (keys_of es) n
    → keys_of (cond b es (e ∷ remove_entry (alike n) es)) ≡ cond (not b) (e.0 ∷ without (keys_of es) n) (without (keys_of es) n)
removed_first true n e es here far h = sym (without_absent (keys_of es) n (subst (λ (m : List Label). lists (keys_of es) m ≡ false) (sym (alike_exact n e.0 here)) far))
removed_first false n e es here far h = ap (λ (l : Order). e.0 ∷ l) h

-- an entry taken out
pub keys_removed : (es : Entries) (n : List Label) → IsDistinct alike (keys_of es) → keys_of (remove_entry (alike n) es) ≡ without (keys_of es) n
keys_removed [] n once = refl
keys_removed (e ∷ es) n once =
    removed_first (alike n e.0) n e es refl (absent_head e.0 (keys_of es) once) (keys_removed es n (IsDistinct-tail alike e.0 (keys_of es) once))

found_first : {X : Type 0} (b l : Bool) (x : X) (o : Option X) → is_some o ≡ l → is_some (cond b (Some x) o) ≡ (b || l)
found_first true l x o h = refl
found_first false l x o h = h

-- an entry is found just where its name is listed
pub entry_found : (es : Entries) (n : List Label) → is_some (lookup_entry (alike n) es) ≡ lists (keys_of es) n
entry_found [] n = refl
entry_found (e ∷ es) n = found_first (alike n e.0) (lists (keys_of es) n) e (lookup_entry (alike n) es) (entry_found es n)

-- so is its value
pub value_found : (es : Entries) (n : List Label) → is_some (lookup (alike n) es) ≡ lists (keys_of es) n
value_found [] n = refl
value_found (e ∷ es) n = found_first (alike n e.0) (lists (keys_of es) n) e.1 (lookup (alike n) es) (value_found es n)

entry_name : (es : Entries) (n : List Label) (e : List Label × Unit {0}) → lookup_entry (alike n) es ≡ Some e → e.0 ≡ n
entry_name [] n e h = absurd (cc)
entry_name (f ∷ es) n e h = by (alike n f.0) refl (entry_name es n e) h
  where
    by : (b : Bool) → alike n f.0 ≡ b → (lookup_entry (alike n) es ≡ Some e → e.0 ≡ n) → cond b (Some f) (lookup_entry (alike n) es) ≡ Some e → e.0 ≡ n
    by true here more k =
        let is : f ≡ e = cc in
        sym (alike_exact n f.0 here ∙ ap (λ (g : List Label × Unit {0}). g.0) is)
    by false here more k = more k

-- a use of an entry
pub keys_promoted : (es : Entries) (n : List Label) → IsDistinct alike (keys_of es) → keys_of (promoted (alike n) es) ≡ (if lists (keys_of es) n then in_front (keys_of es) n else keys_of es)
keys_promoted es n once = by (lookup_entry (alike n) es) refl ∙ ap (λ (b : Bool). if b then in_front (keys_of es) n else keys_of es) (entry_found es n)
  where
    by : (o : Option (List Label × Unit {0})) → lookup_entry (alike n) es ≡ o → keys_of (option_map_or (λ e. e ∷ remove_entry (alike n) es) o es) ≡ (if is_some o then in_front (keys_of es) n else keys_of es)
    by None at = refl
    by (Some e) at = rw (entry_name es n e at, keys_removed es n once) refl

keys_at : (es : Entries) (n : ℕ) → option_map (λ e. e.0) (slice_get es n) ≡ slice_get (keys_of es) n
keys_at [] n = refl
keys_at (e ∷ es) zero = refl
keys_at (e ∷ es) (suc n) = keys_at es n

keys_taken : (n : ℕ) (es : Entries) → keys_of (take n es) ≡ take n (keys_of es)
keys_taken zero es = refl
keys_taken (suc n) [] = refl
keys_taken (suc n) (e ∷ es) = ap (λ (l : Order). e.0 ∷ l) (keys_taken n es)

-- the name of the last entry
pub last_name : (es : Entries) → option_map (λ e. e.0) (last_entry es) ≡ last_of (keys_of es)
last_name es = rw (length-keys_of es) (keys_at es (length es - 1))

-- the names before it
pub front_names : (es : Entries) → keys_of (take (length es - 1) es) ≡ take (length (keys_of es) - 1) (keys_of es)
front_names es = rw (length-keys_of es) (keys_taken (length es - 1) es)
