-- What a cache leaves in order, and which nodes it owns, as it evicts a copy, uses one, or releases what it owned.
use Rattle.std.proofs.Common.{◌≡◌, ℕ, Bool, true, false, cond, if◌then◌else◌, nat_le, length, List, [], ◌∷◌, Option, Some, None, IsSome, option_map, refl, sym, ◌∙◌, ap}
use Rattle.std.specs.Cmp.Lexicographic.{pointwise}
use Rattle.iris_base.specs.declared.name.Label.{Label}
use Rattle.iris_base.specs.NameOrder.{label_eq}
use Rattle.iris_fragment.specs.declared.held.HeldNode.{HeldNode}
use Rattle.iris_fragment.specs.declared.held.Part.{Part}
use Rattle.iris_fragment.specs.declared.held.Part.TheVariants.{Own, Copied, Bare}
use Rattle.iris_fragment.specs.declared.status.Status.TheVariants.{Owned}
use Rattle.iris_fragment.specs.Changes.{with_part, without_node, has_child, evicted, changed_in, released, released_part, own_version, part_in, version_at}
use Rattle.iris_fragment.specs.Contents.{Contents, held_at, is_listed, status, status_or, part_status}
use Rattle.iris_fragment.specs.Shape.{HaveRisingNames, IsRooted}
use Rattle.iris_fragment.proofs.Names.{alike_exact}
use Rattle.iris_fragment.proofs.NodeChanges.{look_up_left_out, look_up_replaced, rooted_part, rooted_without}
use Rattle.iris_need.specs.declared.need.Need.{Need}
use Rattle.iris_cache.specs.Order.{without, without_any, in_front, last_of}
use Rattle.iris_cache.specs.Recency.{Cache, is_complete, evicted_from, contents_without, last_evicted, trimmed, touched, released_in, ListsComplete}
use Rattle.iris_cache.proofs.Completeness.{copy_in, complete_is, stays_evicted, stays_released, stays_used}
use Rattle.iris_cache.proofs.Orders.{listed_last}
use Rattle.iris_agent.specs.Decisions.{all_touched}
use Rattle.iris_runs.specs.Moments.{IsOrderly}

-- ---- eviction

-- a copy is not owned
copy_unowned : (o : Option HeldNode) → copy_in o ≡ true → own_version (part_in o) ≡ None
copy_unowned None copied = refl
copy_unowned (Some node) copied = by node.part copied
  where
    by : (part : Part) → copy_in (Some (record { ids = node.ids; part = part })) ≡ true → own_version part ≡ None
    by (Own local version) c = absurd (cc)
    by (Copied full) c = refl
    by Bare c = refl

bare_unowned : (o : Option HeldNode) → own_version (part_in (option_map (λ node. record { ids = node.ids; part = Bare }) o)) ≡ None
bare_unowned None = refl
bare_unowned (Some node) = refl

-- an eviction of a copy leaves what is owned
pub version_evicted : (f : Contents) (name : List Label) → HaveRisingNames f.nodes → is_complete f name ≡ true → (other : List Label) → version_at (evicted f name) other ≡ version_at f other
version_evicted f name ordered complete other = either (has_child f.nodes name)
  where
    gone : own_version (part_in (held_at f.nodes name)) ≡ None
    gone = copy_unowned (held_at f.nodes name) (sym (complete_is f name) ∙ complete)

    same : (o : Option HeldNode) (b : Bool) → pointwise label_eq name other ≡ b → own_version (part_in o) ≡ None → own_version (part_in (cond b o (held_at f.nodes other))) ≡ version_at f other
    same o true alike none = none ∙ sym gone ∙ ap (λ (n : List Label). version_at f n) (alike_exact name other alike)
    same o false alike none = refl

    either : (b : Bool) → own_version (part_in (held_at (if b then with_part f.nodes name Bare else without_node f.nodes name) other)) ≡ version_at f other
    either true = ap (λ (o : Option HeldNode). own_version (part_in o)) (look_up_replaced f.nodes name other Bare) ∙ same (option_map (λ node. record { ids = node.ids; part = Bare }) (held_at f.nodes name)) _ refl (bare_unowned (held_at f.nodes name))
    either false = ap (λ (o : Option HeldNode). own_version (part_in o)) (look_up_left_out f.nodes name other ordered) ∙ same None _ refl refl

pub rooted_evicted : (f : Contents) (name : List Label) → HaveRisingNames f.nodes → IsRooted f.nodes → IsRooted (evicted f name).nodes
rooted_evicted f name ordered rooted = either (has_child f.nodes name) refl
  where
    either : (b : Bool) → has_child f.nodes name ≡ b → IsRooted (if b then with_part f.nodes name Bare else without_node f.nodes name)
    either true child = rooted_part f.nodes name Bare rooted
    either false child = rooted_without f.nodes name ordered child rooted

pub evicted_orderly : (c : Cache) (name : List Label) → HaveRisingNames c.contents.nodes → IsOrderly c → IsOrderly (evicted_from c name)
evicted_orderly c name ordered is = record {
  rooted = rooted_evicted c.contents name ordered is.rooted;
  listed = stays_evicted c.contents (evicted c.contents name) c.order (without c.order name) name ordered is.listed refl refl;
}

-- ---- a cache that is trimmed

pub trimmed_orderly : (c : Cache) → HaveRisingNames c.contents.nodes → IsOrderly c → IsOrderly (trimmed c)
trimmed_orderly c ordered is = either (nat_le (length c.order) c.capacity)
  where
    last : (o : Option (List Label)) → IsOrderly (record c { contents = contents_without c.contents o; order = without_any c.order o })
    last None = is
    last (Some name) = evicted_orderly c name ordered is

    either : (b : Bool) → IsOrderly (if b then c else last_evicted c)
    either true = is
    either false = last (last_of c.order)

pub version_trimmed : (c : Cache) → HaveRisingNames c.contents.nodes → ListsComplete c.contents c.order → (other : List Label) → version_at (trimmed c).contents other ≡ version_at c.contents other
version_trimmed c ordered listed other = either (nat_le (length c.order) c.capacity)
  where
    last : (o : Option (List Label)) → last_of c.order ≡ o → version_at (contents_without c.contents o) other ≡ version_at c.contents other
    last None at = refl
    last (Some name) at = version_evicted c.contents name ordered (sym (listed name) ∙ listed_last c.order name at) other

    either : (b : Bool) → version_at (if b then c else last_evicted c).contents other ≡ version_at c.contents other
    either true = refl
    either false = last (last_of c.order) refl

-- ---- what is released

pub owned_status : (f : Contents) (name : List Label) → IsSome (version_at f name) → status f name ≡ Some Owned
owned_status f name own = by (held_at f.nodes name) own
  where
    part : (p : Part) → IsSome (own_version p) → Some (part_status p) ≡ Some Owned
    part (Own local version) some = refl
    part (Copied full) some = absurd (cc)
    part Bare some = absurd (cc)

    by : (o : Option HeldNode) → IsSome (own_version (part_in o)) → status_or (is_listed f name) o ≡ Some Owned
    by None some = absurd (cc)
    by (Some node) some = part node.part some

rooted_released : (f : Contents) (name : List Label) (now : ℕ) → IsRooted f.nodes → IsRooted (released f name now).nodes
rooted_released f name now rooted = by (held_at f.nodes name)
  where
    by : (o : Option HeldNode) → IsRooted (changed_in o (released_part now) f.nodes name)
    by None = rooted
    by (Some node) = rooted_part f.nodes name (released_part now node.part) rooted

pub released_orderly : (c : Cache) (name : List Label) (now : ℕ) → IsSome (version_at c.contents name) → HaveRisingNames (released c.contents name now).nodes → IsOrderly c → IsOrderly (released_in c name now)
released_orderly c name now own ordered is = trimmed_orderly (record c { contents = released c.contents name now; order = in_front c.order name }) ordered record {
  rooted = rooted_released c.contents name now is.rooted;
  listed = stays_released c.contents (released c.contents name now) c.order (in_front c.order name) name now (owned_status c.contents name own) is.listed refl refl;
}

released_unowned : (now : ℕ) (part : Part) → own_version (released_part now part) ≡ None
released_unowned now (Own local version) = refl
released_unowned now (Copied full) = refl
released_unowned now Bare = refl

version_given : (f : Contents) (name : List Label) (now : ℕ) (other : List Label) → version_at (released f name now) other ≡ cond (pointwise label_eq name other) None (version_at f other)
version_given f name now other = by (held_at f.nodes name) refl
  where
    owned_in_part : Option HeldNode → Option ℕ
    owned_in_part o = own_version (part_in o)

    by : (o : Option HeldNode) → held_at f.nodes name ≡ o → owned_in_part (held_at (changed_in o (released_part now) f.nodes name) other) ≡ cond (pointwise label_eq name other) None (version_at f other)
    by None at = either (pointwise label_eq name other) refl
      where
        either : (b : Bool) → pointwise label_eq name other ≡ b → version_at f other ≡ cond b None (version_at f other)
        either true alike = ap (λ (n : List Label). version_at f n) (sym (alike_exact name other alike)) ∙ ap owned_in_part at
        either false alike = refl
    by (Some node) at = ap owned_in_part (look_up_replaced f.nodes name other (released_part now node.part)) ∙ either (pointwise label_eq name other)
      where
        there : (o : Option HeldNode) → owned_in_part (option_map (λ old. record { ids = old.ids; part = released_part now node.part }) o) ≡ None
        there None = refl
        there (Some old) = released_unowned now node.part

        either : (b : Bool) → owned_in_part (cond b (option_map (λ old. record { ids = old.ids; part = released_part now node.part }) (held_at f.nodes name)) (held_at f.nodes other)) ≡ cond b None (version_at f other)
        either true = there (held_at f.nodes name)
        either false = refl

-- what is released is not owned any more, and all else that is owned stays so
pub version_released : (c : Cache) (name : List Label) (now : ℕ) → IsSome (version_at c.contents name) → HaveRisingNames (released c.contents name now).nodes → IsOrderly c → (other : List Label)
    → version_at (released_in c name now).contents other ≡ cond (pointwise label_eq name other) None (version_at c.contents other)
version_released c name now own ordered is other =
    version_trimmed (record c { contents = released c.contents name now; order = in_front c.order name }) ordered
    (stays_released c.contents (released c.contents name now) c.order (in_front c.order name) name now (owned_status c.contents name own) is.listed refl refl) other
    ∙ version_given c.contents name now other

-- ---- what is used

touched_same : (c : Cache) (name : List Label) → (touched c name).contents ≡ c.contents
touched_same c name = either (is_complete c.contents name)
  where
    either : (b : Bool) → (if b then record c { order = in_front c.order name } else c).contents ≡ c.contents
    either true = refl
    either false = refl

touched_orderly : (c : Cache) (name : List Label) → IsOrderly c → IsOrderly (touched c name)
touched_orderly c name is = either (is_complete c.contents name) refl
  where
    either : (b : Bool) → is_complete c.contents name ≡ b → IsOrderly (if b then record c { order = in_front c.order name } else c)
    either true complete = record {
      rooted = is.rooted;
      listed = stays_used c.contents c.order (in_front c.order name) name is.listed (sym (ap (λ (b : Bool). if b then in_front c.order name else c.order) (is.listed name ∙ complete)));
    }
    either false other = is

-- uses change no contents, and keep the order
pub all_touched_same : (c : Cache) (needs : List Need) → (all_touched c needs).contents ≡ c.contents
all_touched_same c [] = refl
all_touched_same c (need ∷ needs) = all_touched_same (touched c need.name) needs ∙ touched_same c need.name

pub all_touched_orderly : (c : Cache) (needs : List Need) → IsOrderly c → IsOrderly (all_touched c needs)
all_touched_orderly c [] is = is
all_touched_orderly c (need ∷ needs) is = all_touched_orderly (touched c need.name) needs (touched_orderly c need.name is)
