-- Plain elements that are the same.
use Rattle.std.specs.Prelude.{◌≡◌}
use Rattle.iris_tree.specs.declared.plain.Plain.{Plain}
use Rattle.iris_tree.specs.declared.plain.Plain.TheViews.{out-Plain}

-- Two elements are the same but for their kids.
pub record IsSameHead (one other : Plain) : Type 0 where
  pub tag : (out-Plain one).tag ≡ (out-Plain other).tag
  pub attrs : (out-Plain one).attrs ≡ (out-Plain other).attrs
  pub text : (out-Plain one).text ≡ (out-Plain other).text
