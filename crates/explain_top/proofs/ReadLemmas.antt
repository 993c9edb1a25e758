-- An answer that is too long is refused by one line, whatever stands behind its first bytes.
use Rattle.std.proofs.Common.{◌≡◌, inl, inr, ℕ, List, ◌++◌, length, arith, length-append}
use Rattle.program_outside.specs.Serving.{IsEnough}
use Rattle.explain_top.specs.Answers.{Explanation, IsOutput}

longer : (text answer rest : List ℕ) (out : Explanation) → length answer ≡ 536870913 → IsOutput text answer out → IsOutput text (answer ++ rest) out
longer text answer rest out full (inl is) = absurd (omega (arith, full, is.within))
longer text answer rest out full (inr is) = inr (record { large = omega (arith, full, length-append answer rest); output = is.output })

pub read-enough : (text : List ℕ) → IsEnough (IsOutput text) 536870913
read-enough text answer rest out full is = longer text answer rest out full is
