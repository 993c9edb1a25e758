-- Two calls with the same options about one text give one output.
use Rattle.std.proofs.Common.{◌≡◌, ◌⊎◌, inl, inr, ℕ, List, Some, None, IfSome, refl, sym, ap, subst, ◌∙◌}
use Rattle.dn_base.specs.declared.status.Status as status
use Rattle.dn_top.specs.declared.options.Options.{Options}
use Rattle.dn_top.specs.declared.output.Output.{Output}
use Rattle.dn_top.specs.declared.serving.Answer.{Answer}
use Rattle.dn_top.specs.Answers.{IsAnswer, IsOutcome}
use Rattle.program_outside.specs.Outside.{Devices, Took}
use Rattle.dn_top.specs.Serving.{text_to_answer, ForText, HasDone, HasRefused, answer_to}
use Rattle.dn_top.specs.Laws.{Call, IsTextAnswered, IsDecided, GaveOneOutput}
use Rattle.dn_top.proofs.Statuses.{outcome_refused}
use Rattle.dn_top.proofs.Clauses.{at-some, same_options}
use Rattle.dn_top.proofs.OneAnswer.{one-answer}

answer-same : (a b : Answer) → a.status ≡ b.status → a.run ≡ b.run → a ≡ b
answer-same a b s r =
    let e : record { status = a.status; run = a.run } ≡ b = rw (s, r) refl in e

-- what is said of the text of the options that are wanted
of_text : (o : Options) (text : List ℕ) (before : Devices) (Holds : Options → List ℕ → Type 0) → text_to_answer o before.source ≡ Some text → ForText (Some o) before.source Holds → Holds o text
of_text o text before Holds about h =
    let same : h.options ≡ o = same_options h.options o (Some o) h.asked refl in
    let there : IfSome (text_to_answer o before.source) (Holds o) = subst (λ (p : Options). IfSome (text_to_answer p before.source) (Holds p)) same h.text in
    at-some (text_to_answer o before.source) text (Holds o) about there

-- the output of a call: the text's answer, which was written and handed back
record IsGivenBy (o : Options) (text : List ℕ) (c : Call) : Type 0 where
  out : Output
  is : IsAnswer o text out
  answer : c.answer ≡ answer_to out
  took : Took c.before.sink c.after.sink out.bytes

given : (o : Options) (text : List ℕ) (c : Call) → IsTextAnswered o text c → IsGivenBy o text c
given o text c is = by_end is.ends
  where
    by_end : IsOutcome c.answer.status ⊎ (c.answer.status ≡ status.TheVariants.SourceRefused) → IsGivenBy o text c
    by_end (inl ends) =
        let done : HasDone o c.before c.after text c.answer =
        of_text o text c.before (λ p t. HasDone p c.before c.after t c.answer) is.about (is.serves.done ends)
        in
        record { out = done.out; is = inl done.done; answer = answer-same c.answer (answer_to done.out) done.ends done.run; took = done.took }
    by_end (inr ends) =
        let was : HasRefused o c.before c.after text =
        of_text o text c.before (λ p t. HasRefused p c.before c.after t) is.about (is.serves.refused ends)
        in
        let none : c.answer.run ≡ None = is.serves.no_run (λ there. outcome_refused c.answer.status there ends) in
        record {
          out = was.out;
          is = inr was.refusal;
          answer = answer-same c.answer (answer_to was.out)
              (ends ∙ sym (ap (λ (x : Output). x.status) was.refusal.answer))
              (none ∙ sym (ap (λ (x : Output). x.run) was.refusal.answer));
          took = was.took;
        }

pub one-call : (o : Options) (text : List ℕ) (c d : Call) → IsDecided o → IsTextAnswered o text c → IsTextAnswered o text d → GaveOneOutput c d
one-call o text c d decided is also =
    let first = given o text c is in
    let second = given o text d also in
    let same : first.out ≡ second.out = one-answer o text first.out second.out decided first.is second.is in
    record {
      answer = first.answer ∙ ap (λ (x : Output). answer_to x) same ∙ sym second.answer;
      bytes = second.out.bytes;
      first = subst (λ (x : Output). Took c.before.sink c.after.sink x.bytes) same first.took;
      second = second.took;
    }
