-- Whole words at the front of a text.
use Rattle.std.proofs.Common.{◌≡◌, ℕ, ◌<◌, ◌≤◌, Bool, true, false, not, List, [], ◌∷◌, refl, ap, sym, ◌∙◌, length, take, drop, get_or, arith}
use Rattle.std.specs.Str.{bytes_eq}
use Rattle.iris_xpath.specs.Bytes.{is_word_byte}
use Rattle.iris_xpath.specs.Outside.{ends_word, is_whole_word}

empty_ends : (v : List ℕ) → length v < 1 → ends_word v ≡ true
empty_ends [] h = refl
empty_ends (b ∷ v) h = absurd (omega arith)

head_ends : (v : List ℕ) → 1 ≤ length v → ends_word v ≡ not (is_word_byte (get_or v 0 0))
head_ends [] h = absurd (omega arith)
head_ends (b ∷ v) h = refl

-- the word ends where the text does
pub whole_end : (word rest w v : List ℕ) → w ≡ word → bytes_eq (take (length w) rest) w ≡ true → v ≡ drop (length w) rest → length v < 1 → true ≡ is_whole_word word rest
whole_end word rest w v d a e h = rw (← d) (rw (a, ← e) (sym (empty_ends v h)))

-- the word ends where no byte of a word follows
pub whole_more : (word rest w v : List ℕ) (r : Bool) → w ≡ word → bytes_eq (take (length w) rest) w ≡ true → v ≡ drop (length w) rest → 1 ≤ length v → r ≡ is_word_byte (get_or v 0 0) → not r ≡ is_whole_word word rest
whole_more word rest w v r d a e h k = rw (← d) (rw (a, ← e) (ap not k ∙ sym (head_ends v h)))

-- another text stands at the front
pub whole_not : (word rest w : List ℕ) → w ≡ word → bytes_eq (take (length w) rest) w ≡ false → false ≡ is_whole_word word rest
whole_not word rest w d a = rw (← d) (rw a refl)
