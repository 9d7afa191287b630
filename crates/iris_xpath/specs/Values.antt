-- Values as the code has them, and the blanks at the end of a text.
use Rattle.std.specs.Prelude.{ℕ, List, reverse}
use Rattle.iris_xpath.specs.Meaning.{without_leading_blanks, Value, of_text, of_number}
use Rattle.iris_xpath.specs.declared.value.Value.TheVariants as values
use Rattle.iris_xpath.specs.declared.value.Value.{Value as CodeValue}

-- a text without the blanks at its end
abbrev pub without_trailing_blanks : List ℕ → List ℕ
without_trailing_blanks text = reverse (without_leading_blanks (reverse text))

-- a value, as the meaning has it
abbrev pub value_of : CodeValue → Value
value_of (values.Text text) = of_text text.now
value_of (values.Number n) = of_number n
