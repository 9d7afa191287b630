-- When versions began and ended.
use Rattle.std.proofs.Common.{◌≡◌, ℕ, ◌+◌, ◌≤◌, ◌↔◌, true, List, slice_get, Option, Some, None, IfSome, refl, sym, subst, arith, leb, leb-true, le-leb}
use Rattle.std.specs.Prelude.{IsTrue}
use Rattle.iris_book.specs.declared.update.NodeUpdate.{NodeUpdate}

-- the update that made that version, if one did, came at that moment or before
abbrev pub BegunBy : List NodeUpdate → ℕ → ℕ → Type 0
BegunBy us version stamp = (before : ℕ) → before + 1 ≡ version → IfSome (slice_get us before) (λ u. u.at ≤ stamp)

-- that is told by the update, where there is one
pub begun_some : (us : List NodeUpdate) (version before stamp : ℕ) (u : NodeUpdate) → before + 1 ≡ version → Some u ≡ slice_get us before → IsTrue (leb u.at stamp) ↔ BegunBy us version stamp
begun_some us version before stamp u next is = (
  (λ yes k h.
      let same : before ≡ k = omega arith in
      subst (λ n. IfSome (slice_get us n) (λ v. v.at ≤ stamp)) same (subst (λ (o : Option NodeUpdate). IfSome o (λ v. v.at ≤ stamp)) is (leb-true u.at stamp yes))),
  (λ each. le-leb u.at stamp (subst (λ (o : Option NodeUpdate). IfSome o (λ v. v.at ≤ stamp)) (sym is) (each before next))),
)

-- it holds where there is none
pub begun_none : (us : List NodeUpdate) (version before stamp : ℕ) → before + 1 ≡ version → None ≡ slice_get us before → IsTrue true ↔ BegunBy us version stamp
begun_none us version before stamp next is = (
  (λ _ k h.
      let same : before ≡ k = omega arith in
      subst (λ n. IfSome (slice_get us n) (λ v. v.at ≤ stamp)) same (subst (λ (o : Option NodeUpdate). IfSome o (λ v. v.at ≤ stamp)) is tt)),
  (λ _. refl),
)

-- whether a version was not over is told by the next update, where there is one
pub not_over_some : (us : List NodeUpdate) (version stamp : ℕ) (u : NodeUpdate) → Some u ≡ slice_get us version → IsTrue (leb stamp u.at) ↔ IfSome (slice_get us version) (λ v. stamp ≤ v.at)
not_over_some us version stamp u is = (
  (λ yes. subst (λ (o : Option NodeUpdate). IfSome o (λ v. stamp ≤ v.at)) is (leb-true stamp u.at yes)),
  (λ h. le-leb stamp u.at (subst (λ (o : Option NodeUpdate). IfSome o (λ v. stamp ≤ v.at)) (sym is) h)),
)

-- it was not over where there is none
pub not_over_none : (us : List NodeUpdate) (version stamp : ℕ) → None ≡ slice_get us version → IsTrue true ↔ IfSome (slice_get us version) (λ v. stamp ≤ v.at)
not_over_none us version stamp is = ((λ _. subst (λ (o : Option NodeUpdate). IfSome o (λ v. stamp ≤ v.at)) is tt), (λ _. refl))
