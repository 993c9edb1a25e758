-- A text that is too large is refused by one line, whatever stands behind its first bytes.
use Rattle.std.proofs.Common.{◌≡◌, inl, inr, ℕ, ◌<◌, nat_lt, true, List, ◌++◌, length, Ok, Err, sym, ◌∙◌, arith, length-append}
use Rattle.std.proofs.lemmas.Bool.Decides.{nat_tests}
use Rattle.rv_assembler.specs.declared.fault.SourceFault as fault
use Rattle.rv_assembler.specs.Source.{source}
use Rattle.run_report.specs.Texts.{IsUnfit}
use Rattle.program_outside.specs.Serving.{IsEnough}
use Rattle.outcomes_top.specs.Answers.{OutcomesReply, IsOutcomesAnswer}

source-large : (x : List ℕ) → 1048576 < length x → source x ≡ Err fault.TheVariants.TooLarge
source-large x more = let test : nat_lt 1048576 (length x) ≡ true = grind (arith, nat_tests) in rw test

unfit-alike : (text t line : List ℕ) → source text ≡ source t → IsUnfit text line → IsUnfit t line
unfit-alike text t line e (inl h) = inl (record { fault = h.fault; is = sym e ∙ h.is; says = h.says })
unfit-alike text t line e (inr h) = inr (record { program = h.program; is = sym e ∙ h.is; holds = h.holds })

-- an answer is one of the program or of the fault that the text has
answer-alike : (fuel : ℕ) (text t : List ℕ) (out : OutcomesReply) → source text ≡ source t → IsOutcomesAnswer fuel text out → IsOutcomesAnswer fuel t out
answer-alike fuel text t out e (inl h) = inl (record { program = h.program; is = sym e ∙ h.is; checked = h.checked; holds = h.holds })
answer-alike fuel text t out e (inr h) = inr (record { line = h.line; why = unfit-alike text t h.line e h.why; answer = h.answer })

pub read-enough : (fuel : ℕ) → IsEnough (IsOutcomesAnswer fuel) 1048577
read-enough fuel text rest out full is =
    let same : source text ≡ source (text ++ rest) = source-large text (omega (arith, full)) ∙ sym (source-large (text ++ rest) (omega (arith, full, length-append text rest))) in
    answer-alike fuel text (text ++ rest) out same is
