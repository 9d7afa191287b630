use Rattle.std.proofs.Common.{◌≡◌, drop}
use Rattle.iris_xpath.specs.Meaning.{without_leading_blanks}
use Rattle.iris_xpath.proofs.number.without_leading_blanks.Given as goal

-- the blanks before are nothing
abbrev pub invariant-loop-at : goal.invariant-loop-at
invariant-loop-at l = without_leading_blanks (drop l.at l.bytes) ≡ without_leading_blanks l.bytes
