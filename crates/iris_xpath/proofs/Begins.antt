-- How steps, parts, operands, units, separators and signs begin, byte by byte.
use Rattle.std.proofs.Common.{◌≡◌, ℕ, Bool, true, false, ◌==◌, List, [], ◌∷◌, ◌++◌, refl, ap, sym, ◌∙◌, subst, arith, append_assoc, Option, Some, None, option_and_then}
use Rattle.std.proofs.lemmas.Bool.Decides.{nat_tests}
use Rattle.iris_xpath.specs.declared.expression.Separator.{Separator}
use Rattle.iris_xpath.specs.declared.expression.Separator.TheVariants.{Slash, DoubleSlash}
use Rattle.iris_xpath.specs.declared.expression.NameTest.{NameTest}
use Rattle.iris_xpath.specs.declared.expression.NameTest.TheVariants.{Any}
use Rattle.iris_xpath.specs.declared.expression.Step.{Step}
use Rattle.iris_xpath.specs.declared.expression.Part.{Part}
use Rattle.iris_xpath.specs.declared.expression.Comparison.{Comparison}
use Rattle.iris_xpath.specs.declared.expression.Comparison.TheVariants.{Equal, NotEqual, Less, LessOrEqual, Greater, GreaterOrEqual}
use Rattle.iris_xpath.specs.declared.expression.Operand.{Operand}
use Rattle.iris_xpath.specs.declared.expression.Expression.{Expression}
use Rattle.iris_xpath.specs.declared.state.Level.{Level}
use Rattle.iris_xpath.specs.declared.state.Side.{Side}
use Rattle.iris_xpath.specs.declared.state.Spot.{Spot}
use Rattle.iris_xpath.specs.declared.state.Spot.TheVariants as spots
use Rattle.iris_xpath.specs.declared.state.Frame.{Frame}
use Rattle.iris_xpath.specs.declared.state.Frame.TheVariants as frames
use Rattle.iris_xpath.specs.declared.state.Link.TheVariants as links
use Rattle.iris_xpath.specs.declared.state.State.TheVariants as states
use Rattle.iris_xpath.specs.Bytes.{is_letter, is_digit, is_word_byte, is_blank, is_quote}
use Rattle.iris_xpath.specs.Trees.{step_of, joined_and, add_and, add_or}
use Rattle.iris_xpath.specs.Machine.{Configuration, at, right_of, sign_of, no_units, next, run}
use Rattle.iris_xpath.specs.Grammar.{Row, none, more, Sep, slash, slashes, sep_blank, Cmp, equal, not_equal, less, less_or_equal, greater, greater_or_equal, cmp_blank, Arg, row, sep_text}
use Rattle.iris_xpath.specs.Spells.{sep_tree, cmp_tree, arg_tree, Each, GoodSep}
use Rattle.iris_xpath.proofs.Written.{look_sep, look_right}
use Rattle.std.proofs.Common.{inl, inr, ◌⊎◌}

abbrev pub on : (List ℕ → NameTest) → List ℕ → Option Configuration → Option Configuration
on n u r = option_and_then (λ s. run n s u) r

-- a step of the run, by what the next state is
pub goes : (n : List ℕ → NameTest) (u : List ℕ) (r q : Option Configuration) → r ≡ q → on n u r ≡ on n u q
goes n u r q e = ap (on n u) e

-- ---- bytes

pub record LetterIs (b : ℕ) : Type 0 where
  pub blank : is_blank b ≡ false
  pub quote : is_quote b ≡ false
  pub minus : (b == 45) ≡ false
  pub digit : is_digit b ≡ false
  pub open_ : (b == 40) ≡ false
  pub sign : (b == 64) ≡ false
  pub dot_ : (b == 46) ≡ false
  pub slash_ : (b == 47) ≡ false
  pub same : (b == 61) ≡ false

pub letter_is : (b : ℕ) → is_letter b ≡ true → LetterIs b
letter_is b h = record { blank = grind (arith, nat_tests); quote = grind (arith, nat_tests); minus = grind (arith, nat_tests); digit = grind (arith, nat_tests); open_ = grind (arith, nat_tests); sign = grind (arith, nat_tests); dot_ = grind (arith, nat_tests); slash_ = grind (arith, nat_tests); same = grind (arith, nat_tests) }

pub record DigitIs (b : ℕ) : Type 0 where
  pub blank : is_blank b ≡ false
  pub quote : is_quote b ≡ false
  pub minus : (b == 45) ≡ false
  pub open_ : (b == 40) ≡ false
  pub same : (b == 61) ≡ false

pub digit_is : (b : ℕ) → is_digit b ≡ true → DigitIs b
digit_is b h = record { blank = grind (arith, nat_tests); quote = grind (arith, nat_tests); minus = grind (arith, nat_tests); open_ = grind (arith, nat_tests); same = grind (arith, nat_tests) }

pub record BlankIs (b : ℕ) : Type 0 where
  pub word_ : is_word_byte b ≡ false
  pub slash_ : (b == 47) ≡ false
  pub dot_ : (b == 46) ≡ false
  pub same : (b == 61) ≡ false
  pub digit : is_digit b ≡ false

pub blank_is : (b : ℕ) → is_blank b ≡ true → BlankIs b
blank_is b h = record { word_ = grind (arith, nat_tests); slash_ = grind (arith, nat_tests); dot_ = grind (arith, nat_tests); same = grind (arith, nat_tests); digit = grind (arith, nat_tests) }

pub quote_is : (q : ℕ) → is_quote q ≡ true → (q ≡ 39) ⊎ (q ≡ 34)
quote_is q h = grind (arith, nat_tests)

-- ---- rows of bytes

pub row_run : (n : List ℕ → NameTest) (test : ℕ → Bool) (S : Row → Configuration) → ((r : Row) (b : ℕ) → test b ≡ true → next n (S r) b ≡ Some (S (more r b))) → (w : Row) → Each test w → (u : List ℕ) → run n (S none) (row w ++ u) ≡ run n (S w) u
row_run n test S f none h u = refl
row_run n test S f (more w b) h u = ap (run n (S none)) (append_assoc (row w) (b ∷ []) u) ∙ row_run n test S f w h.0 (b ∷ u) ∙ goes n u _ _ (f w b h.1)

pub blanks_run : (n : List ℕ → NameTest) (s : Configuration) → ((b : ℕ) → is_blank b ≡ true → next n s b ≡ Some s) → (g : Row) → Each is_blank g → (u : List ℕ) → run n s (row g ++ u) ≡ run n s u
blanks_run n s f g h u = row_run n is_blank (λ _. s) (λ r b k. f b k) g h u

-- ---- how steps, parts, operands and units begin in a state

pub record BeginsStep (n : List ℕ → NameTest) (s : Configuration) (sep : Separator) (spot : Spot) (fs : List Frame) (word_first : Bool) : Type 0 where
  pub letter : word_first ≡ true → (b : ℕ) → is_letter b ≡ true → next n s b ≡ Some (at (states.InWord sep (b ∷ []) spot) fs)
  pub any : next n s 42 ≡ Some (at (states.AfterStep (step_of sep Any) spot) fs)

pub record BeginsPart (n : List ℕ → NameTest) (s : Configuration) (sep : Separator) (ps : List (Part Expression)) (side : Side) (fs : List Frame) (word_first : Bool) : Type 0 where
  pub begins_step : BeginsStep n s sep (spots.Part ps side) fs word_first
  pub dot_ : sep ≡ Slash → next n s 46 ≡ Some (at (states.Dot ps side) fs)
  pub sign : next n s 64 ≡ Some (at (states.AtSign sep ps side) fs)

pub record BeginsArg (n : List ℕ → NameTest) (s : Configuration) (side : Side) (fs : List Frame) (word_first : Bool) : Type 0 where
  pub part : BeginsPart n s Slash [] side fs word_first
  pub quote : (q : ℕ) → is_quote q ≡ true → next n s q ≡ Some (at (states.InLiteral q side) fs)
  pub minus : word_first ≡ true → next n s 45 ≡ Some (at (states.Minus side) fs)
  pub digit : word_first ≡ true → (b : ℕ) → is_digit b ≡ true → next n s b ≡ Some (at (states.InDigits false (b ∷ []) side) fs)

pub record BeginsTerm (n : List ℕ → NameTest) (s : Configuration) (l : Level) (fs : List Frame) (word_first : Bool) : Type 0 where
  pub arg : BeginsArg n s (record { compared = None; level = l }) fs word_first
  pub open_ : next n s 40 ≡ Some (at (states.Unit no_units) (frames.Paren false l ∷ fs))

by_quote : (P : ℕ → Type 0) (q : ℕ) → is_quote q ≡ true → P 39 → P 34 → P q
by_quote P q h a b = elim (quote_is q h) [ inl e ↦ subst P (sym e) a | inr e ↦ subst P (sym e) b ]

pub unit_begins : (n : List ℕ → NameTest) (l : Level) (fs : List Frame) (w : Bool) → BeginsTerm n (at (states.Unit l) fs) l fs w
unit_begins n l fs w = record {
  arg = record {
    part = record {
      begins_step = record { letter = λ _ b h. (let k = letter_is b h in rw (k.blank, k.open_, k.quote, k.minus, k.digit, k.sign, k.dot_, h) refl); any = refl };
      dot_ = λ _. refl;
      sign = refl;
    };
    quote = λ q h. by_quote (λ x. next n (at (states.Unit l) fs) x ≡ Some (at (states.InLiteral x (record { compared = None; level = l })) fs)) q h refl refl;
    minus = λ _. refl;
    digit = λ _ b h. (let k = digit_is b h in rw (k.blank, k.open_, k.quote, k.minus, h) refl);
  };
  open_ = refl;
}

pub no : {X : Type 0} → false ≡ true → X
no h = absurd (cc)

pub and_begins : (n : List ℕ → NameTest) (e : Expression) (l : Level) (fs : List Frame) → BeginsTerm n (at (states.Link links.And e l) fs) (record { ors = l.ors; ands = add_and l.ands e }) fs false
and_begins n e l fs = record {
  arg = record {
    part = record { begins_step = record { letter = λ h b _. no h; any = refl }; dot_ = λ _. refl; sign = refl };
    quote = λ q h. by_quote (λ x. next n (at (states.Link links.And e l) fs) x ≡ Some (at (states.InLiteral x (record { compared = None; level = record { ors = l.ors; ands = add_and l.ands e } })) fs)) q h refl refl;
    minus = λ h. no h;
    digit = λ h b _. no h;
  };
  open_ = refl;
}

pub or_begins : (n : List ℕ → NameTest) (e : Expression) (l : Level) (fs : List Frame) → BeginsTerm n (at (states.Link links.Or e l) fs) (record { ors = add_or l.ors (joined_and l.ands e); ands = [] }) fs false
or_begins n e l fs = record {
  arg = record {
    part = record { begins_step = record { letter = λ h b _. no h; any = refl }; dot_ = λ _. refl; sign = refl };
    quote = λ q h. by_quote (λ x. next n (at (states.Link links.Or e l) fs) x ≡ Some (at (states.InLiteral x (record { compared = None; level = record { ors = add_or l.ors (joined_and l.ands e); ands = [] } })) fs)) q h refl refl;
    minus = λ h. no h;
    digit = λ h b _. no h;
  };
  open_ = refl;
}

abbrev pub side_of : Operand Expression → Comparison → Level → Side
side_of o c l = record { compared = Some (record { left = o; comparison = c }); level = l }

sign_begins : (n : List ℕ → NameTest) (o : Operand Expression) (c : Comparison) (l : Level) (fs : List Frame) (w : Bool) → BeginsArg n (at (sign_of o c l) fs) (side_of o c l) fs w
sign_begins n o c l fs w = record {
  part = record {
    begins_step = record { letter = λ _ b h. (let k = letter_is b h in rw (k.same, k.blank, k.quote, k.minus, k.digit, k.sign, k.dot_, h) refl); any = refl };
    dot_ = λ _. refl;
    sign = refl;
  };
  quote = λ q h. by_quote (λ x. next n (at (sign_of o c l) fs) x ≡ Some (at (states.InLiteral x (side_of o c l)) fs)) q h refl refl;
  minus = λ _. refl;
  digit = λ _ b h. (let k = digit_is b h in rw (k.same, k.blank, k.quote, k.minus, h) refl);
}

right_begins : (n : List ℕ → NameTest) (o : Operand Expression) (c : Comparison) (l : Level) (fs : List Frame) (w : Bool) → BeginsArg n (at (right_of o c l) fs) (side_of o c l) fs w
right_begins n o c l fs w = record {
  part = record {
    begins_step = record { letter = λ _ b h. (let k = letter_is b h in rw (k.blank, k.quote, k.minus, k.digit, k.sign, k.dot_, h) refl); any = refl };
    dot_ = λ _. refl;
    sign = refl;
  };
  quote = λ q h. by_quote (λ x. next n (at (right_of o c l) fs) x ≡ Some (at (states.InLiteral x (side_of o c l)) fs)) q h refl refl;
  minus = λ _. refl;
  digit = λ _ b h. (let k = digit_is b h in rw (k.blank, k.quote, k.minus, h) refl);
}

pub cmp_begins : (n : List ℕ → NameTest) (a : Arg) (c : Cmp) (l : Level) (fs : List Frame) (w : Bool) → BeginsArg n (at (look_right n a c l) fs) (side_of (arg_tree n a) (cmp_tree c) l) fs w
cmp_begins n a equal l fs w = right_begins n (arg_tree n a) Equal l fs w
cmp_begins n a not_equal l fs w = right_begins n (arg_tree n a) NotEqual l fs w
cmp_begins n a less l fs w = sign_begins n (arg_tree n a) Less l fs w
cmp_begins n a less_or_equal l fs w = right_begins n (arg_tree n a) LessOrEqual l fs w
cmp_begins n a greater l fs w = sign_begins n (arg_tree n a) Greater l fs w
cmp_begins n a greater_or_equal l fs w = right_begins n (arg_tree n a) GreaterOrEqual l fs w
cmp_begins n a (cmp_blank c b) l fs w = right_begins n (arg_tree n a) (cmp_tree c) l fs w

separated_begins : (n : List ℕ → NameTest) (sep : Separator) (ps : List (Part Expression)) (side : Side) (fs : List Frame) (w : Bool) → BeginsPart n (at (states.Separated sep (spots.Part ps side)) fs) sep ps side fs w
separated_begins n Slash ps side fs w = record {
  begins_step = record { letter = λ _ b h. (let k = letter_is b h in rw (k.blank, k.sign, k.dot_, h) refl); any = refl };
  dot_ = λ _. refl;
  sign = refl;
}
separated_begins n DoubleSlash ps side fs w = record {
  begins_step = record { letter = λ _ b h. (let k = letter_is b h in rw (k.blank, k.sign, k.dot_, h) refl); any = refl };
  dot_ = λ h. absurd (cc);
  sign = refl;
}

pub sep_begins : (n : List ℕ → NameTest) (s : Sep) (ps : List (Part Expression)) (side : Side) (fs : List Frame) (w : Bool) → BeginsPart n (at (look_sep s (spots.Part ps side)) fs) (sep_tree s) ps side fs w
sep_begins n slash ps side fs w = record {
  begins_step = record { letter = λ _ b h. (let k = letter_is b h in rw (k.slash_, k.blank, k.sign, k.dot_, h) refl); any = refl };
  dot_ = λ _. refl;
  sign = refl;
}
sep_begins n slashes ps side fs w = separated_begins n DoubleSlash ps side fs w
sep_begins n (sep_blank s b) ps side fs w = separated_begins n (sep_tree s) ps side fs w

pub main_begins : (n : List ℕ → NameTest) (s : Sep) (ss : List (Step Expression)) (w : Bool) → BeginsStep n (at (look_sep s (spots.Main ss)) []) (sep_tree s) (spots.Main ss) [] w
main_begins n slash ss w = record { letter = λ _ b h. (let k = letter_is b h in rw (k.slash_, k.blank, h) refl); any = refl }
main_begins n slashes ss w = record { letter = λ _ b h. (let k = letter_is b h in rw (k.blank, h) refl); any = refl }
main_begins n (sep_blank s c) ss w = record { letter = λ _ b h. (let k = letter_is b h in rw (k.blank, h) refl); any = refl }

-- ---- separators and signs

pub sep_blank_next : (n : List ℕ → NameTest) (s : Sep) (spot : Spot) (fs : List Frame) (b : ℕ) → is_blank b ≡ true → next n (at (look_sep s spot) fs) b ≡ Some (at (states.Separated (sep_tree s) spot) fs)
sep_blank_next n slash spot fs b h = rw ((blank_is b h).slash_, h) refl
sep_blank_next n slashes spot fs b h = rw h refl
sep_blank_next n (sep_blank s c) spot fs b h = rw h refl

pub sep_run : (n : List ℕ → NameTest) (s : Sep) → GoodSep s → (x : Configuration) (spot : Spot) (fs : List Frame) → next n x 47 ≡ Some (at (states.Slash spot) fs) → (u : List ℕ) → run n x (sep_text s ++ u) ≡ run n (at (look_sep s spot) fs) u
sep_run n slash g x spot fs e u = goes n u _ _ e
sep_run n slashes g x spot fs e u = goes n (47 ∷ u) _ _ e
sep_run n (sep_blank s b) g x spot fs e u = ap (run n x) (append_assoc (sep_text s) (b ∷ []) u) ∙ sep_run n s g.0 x spot fs e (b ∷ u) ∙ goes n u _ _ (sep_blank_next n s spot fs b g.1)
