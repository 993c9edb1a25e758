-- Bytes that are too many for a document are refused by one line, whatever stands behind the first of them.
use Rattle.std.proofs.Common.{◌≡◌, ◌⊎◌, inl, inr, ℕ, ◌<◌, ◌≤◌, List, ◌++◌, length, ap, arith, length-append}
use Rattle.run_replay.specs.declared.trace.Trace.{Trace}
use Rattle.run_replay.specs.declared.trace.TraceFault.{TraceFault}
use Rattle.run_replay.specs.declared.trace.TraceFault.TheVariants.{TooLarge, Head as NoHead, Line, Rest, Memory}
use Rattle.run_replay.specs.Faults.{most_bytes, HasFault}
use Rattle.run_replay.proofs.Single.{document-within}
use Rattle.checked_runs.specs.Documents.{HasTrace, IsNoDocument, IsRefusedDocument}
use Rattle.program_outside.specs.Serving.{IsEnough}
use Rattle.view_top.specs.Status.{Output}
use Rattle.view_top.specs.declared.options.View.{View}
use Rattle.view_top.specs.declared.options.View.TheVariants as view
use Rattle.view_top.specs.Answers.{IsWithoutProgram, view_made, view_refused, IsAnswer}

-- bytes of this length are too many
abbrev AreTooMany : List ℕ → Type 0
AreTooMany bytes = most_bytes < length bytes

-- so many bytes are no document
no-trace : (x : List ℕ) (Holds : Trace → Type 0) → AreTooMany x → HasTrace x Holds → ⊥
no-trace x Holds many has = omega (arith, many, ap length has.is.is, document-within has.trace has.is.told)

-- the one fault of too many bytes is one of all longer ones
fault-longer : (x t : List ℕ) (f : TraceFault) → AreTooMany x → AreTooMany t → HasFault x f → HasFault t f
fault-longer x t TooLarge many more is = more
fault-longer x t NoHead many more is = absurd (omega (arith, many, is.0))
fault-longer x t (Line number) many more is = absurd (omega (arith, many, is.begins.within))
fault-longer x t Rest many more is = absurd (omega (arith, many, is.begins.within))
fault-longer x t Memory many more is = absurd is

no_document-longer : (x t line : List ℕ) → AreTooMany x → AreTooMany t → IsNoDocument x line → IsNoDocument t line
no_document-longer x t line many more was = record { fault = was.fault; is = fault-longer x t was.fault many more was.is; says = was.says }

document-longer : (x t line : List ℕ) → AreTooMany x → AreTooMany t → IsRefusedDocument x line → IsRefusedDocument t line
document-longer x t line many more (inl was) = inl (no_document-longer x t line many more was)
document-longer x t line many more (inr has) = absurd (no-trace x _ many has)

program-longer : (x t line : List ℕ) → AreTooMany x → AreTooMany t → IsWithoutProgram x line → IsWithoutProgram t line
program-longer x t line many more (inl was) = inl (no_document-longer x t line many more was)
program-longer x t line many more (inr has) = absurd (no-trace x _ many has)

-- nothing is made of them
made-none : (v : View) (x : List ℕ) (out : Output) → AreTooMany x → view_made v x out → ⊥
made-none (view.Chart o) x out many made = no-trace x _ many made
made-none (view.Account o) x out many made = no-trace x _ many made
made-none (view.Lists o) x out many made = no-trace x _ many made
made-none (view.Traffic o) x out many made = no-trace x _ many made
made-none (view.State o) x out many made = no-trace x _ many made
made-none (view.Answer o) x out many made = no-trace x _ many made
made-none (view.Page o) x out many made = no-trace x _ many made
made-none (view.Data o) x out many made = no-trace x _ many made

refused-longer : (v : View) (x t line : List ℕ) → AreTooMany x → AreTooMany t → view_refused v x line → view_refused v t line
refused-longer (view.Chart o) x t line many more was = document-longer x t line many more was
refused-longer (view.Account o) x t line many more was = document-longer x t line many more was
refused-longer (view.Lists o) x t line many more was = document-longer x t line many more was
refused-longer (view.Traffic o) x t line many more was = document-longer x t line many more was
refused-longer (view.State o) x t line many more was = program-longer x t line many more was
refused-longer (view.Answer o) x t line many more was = document-longer x t line many more was
refused-longer (view.Page o) x t line many more was = document-longer x t line many more was
refused-longer (view.Data o) x t line many more was = document-longer x t line many more was

answer-longer : (v : View) (x t : List ℕ) (out : Output) → AreTooMany x → AreTooMany t → IsAnswer v x out → IsAnswer v t out
answer-longer v x t out many more (inl made) = absurd (made-none v x out many made)
answer-longer v x t out many more (inr was) = inr (record { line = was.line; why = refused-longer v x t was.line many more was.why; answer = was.answer })

pub read-enough : (v : View) → IsEnough (IsAnswer v) 536870913
read-enough v text rest out full is = answer-longer v text (text ++ rest) out (omega (arith, full)) (omega (arith, full, length-append text rest)) is
