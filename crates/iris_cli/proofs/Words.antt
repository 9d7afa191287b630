-- The words that the program is given.
use Rattle.std.proofs.Common.{◌≡◌, ℕ, ◌<◌, ◌≤◌, Bool, List, [], ◌∷◌, length, get_or, IsTrue, ◌↔◌, sym, ◌∙◌, ap, arith}
use Rattle.std.specs.Str.{bytes_eq}
use Rattle.std.proofs.lemmas.Slice.Eq.{bytes_eq-Decides}

-- the one word, compared with a text
pub one_word : (words : List (List ℕ)) (word text wanted : List ℕ) (same : Bool) → 1 ≤ length words → length words < 2 → word ≡ get_or words 0 word → text ≡ word → same ≡ bytes_eq text wanted → IsTrue same ↔ (words ≡ wanted ∷ [])
one_word [] word text wanted same some few is shows tested = absurd (omega arith)
one_word (w ∷ []) word text wanted same some few is shows tested =
    let both = bytes_eq-Decides text wanted in (
      (λ h. ap (λ (v : List ℕ). v ∷ []) (sym is ∙ sym shows ∙ both.0 (sym tested ∙ h))),
      (λ e. tested ∙ both.1 (shows ∙ is ∙ ap (λ (ws : List (List ℕ)). get_or ws 0 w) e)),
    )
one_word (w ∷ v ∷ words) word text wanted same some few is shows tested = absurd (omega arith)
