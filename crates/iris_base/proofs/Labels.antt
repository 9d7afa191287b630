-- Equal labels, and what `==` says of them.
use Rattle.std.proofs.Common.{◌≡◌, Bool, true, false, ◌&&◌, refl, subst}
use Rattle.std.specs.Bool.{Decides}
use Rattle.std.proofs.lemmas.Slice.Eq.{bytes_eq-Decides}
use Rattle.iris_base.specs.declared.name.Label.{Label}
use Rattle.iris_base.specs.NameOrder.{label_eq, labels_equiv}

pub both : (a b : Bool) → (a && b) ≡ true → (a ≡ true) × (b ≡ true)
both true b h = (refl, h)
both false b h = absurd (cc)

pub label_eq-Decides : (a b : Label) → Decides (label_eq a b) (a ≡ b)
label_eq-Decides a b = (
  (λ h.
      let parts = both _ _ h in
      let kinds : a.kind ≡ b.kind = (bytes_eq-Decides a.kind b.kind).0 parts.0 in
      let ids : a.id ≡ b.id = (bytes_eq-Decides a.id b.id).0 parts.1 in
      λ i. record { kind = kinds i; id = ids i }),
  (λ e. subst (λ (x : Label). label_eq a x ≡ true) e (labels_equiv.refl a)),
)
