-- What a call of denovo wrote is taken, and the line that refuses command words.
use Rattle.std.proofs.Common.{◌≡◌, ◌⊎◌, inl, inr, ℕ, List, Option, Some, None, IfSome, refl, sym, subst}
use Rattle.dn_base.specs.declared.status.Status as status
use Rattle.dn_top.specs.declared.options.Options.{Options}
use Rattle.clap.specs.Walk.{Text}
use Rattle.dn_top.specs.Command.{OptionsInRange, options_of}
use Rattle.program_outside.specs.Outside.{Devices}
use Rattle.program_outside.specs.Serving.{usage_line}
use Rattle.dn_top.specs.Answers.{IsOutcome}
use Rattle.dn_top.specs.Laws.{Call, IsTextAnswered}
use Rattle.dn_top.specs.Serving.{HasDone, HasRefused, ForText, text_to_answer}
use Rattle.run_report.specs.declared.refusal.Refusal as refusal
use Rattle.run_report.specs.Refusal.{refusal_of}
use Rattle.explained_answer.specs.declared.line.AnswerLine as line
use Rattle.explained_answer.specs.declared.line.FixedLine as fixed
use Rattle.explained_answer.specs.declared.explaining.Explained.{Explained}
use Rattle.explained_answer.specs.Explained.{IsExplained}
use Rattle.companion_laws.specs.Taken.{IsTaken, IsCallTaken}
use Rattle.companion_laws.proofs.Refused.{IsRefusedOnce, before-taken}
use Rattle.companion_laws.proofs.Ranges.{words-range}
use Rattle.companion_laws.proofs.Modes.{answer-taken}

same_options : (o p : Options) → Some o ≡ Some p → o ≡ p
same_options o p e = cc

at-some : {X : Type 0} (o : Option X) (x : X) (Holds : X → Type 0) → o ≡ Some x → IfSome o Holds → Holds x
at-some None x Holds e h = absurd cc
at-some (Some y) x Holds e h = let same : y ≡ x = cc in subst Holds same h

-- what is said of the text of the options that are wanted
of_text : (o : Options) (text : List ℕ) (before : Devices) (Holds : Options → List ℕ → Type 0) → text_to_answer o before.source ≡ Some text → ForText (Some o) before.source Holds → Holds o text
of_text o text before Holds about h =
    let same : h.options ≡ o = same_options h.options o (sym h.asked) in
    at-some (text_to_answer o before.source) text (Holds o) about (subst (λ (p : Options). IfSome (text_to_answer p before.source) (Holds p)) same h.text)

-- the line that refuses command words is the one that answers may have
usage_is : usage_line ≡ refusal_of refusal.TheVariants.Usage
unfolding refusal_of
usage_is = refl

module _ (once : IsRefusedOnce) where
  pub call-taken : (words : List Text) (o : Options) (asked : List ℕ) (call : Call) → options_of words ≡ Some o → IsTextAnswered o asked call → IsCallTaken o asked call
  call-taken words o asked call wanted h = by_end h.ends
    where
      range : OptionsInRange o
      range = words-range words o wanted

      by_end : IsOutcome call.answer.status ⊎ (call.answer.status ≡ status.TheVariants.SourceRefused) → IsCallTaken o asked call
      by_end (inl ends) =
          let done : HasDone o call.before call.after asked call.answer =
          of_text o asked call.before (λ p t. HasDone p call.before call.after t call.answer) h.about (h.serves.done ends) in
          record { out = done.out; answer = inl done.done; took = done.took; taken = λ text e beside explained. answer-taken once o asked done.out text e range (inl done.done) beside explained }
      by_end (inr refused) =
          let said : HasRefused o call.before call.after asked =
          of_text o asked call.before (λ p t. HasRefused p call.before call.after t) h.about (h.serves.refused refused) in
          record { out = said.out; answer = inr said.refusal; took = said.took; taken = λ text e beside explained. answer-taken once o asked said.out text e range (inr said.refusal) beside explained }

  pub usage-taken : (text : List ℕ) (e : Explained) → IsExplained text usage_line e → IsTaken e
  usage-taken text e h = before-taken once text usage_line (line.TheVariants.Fixed fixed.TheVariants.Usage) refl tt (λ l. refl) usage_is e h
