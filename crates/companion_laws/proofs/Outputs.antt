-- What explain_top makes of an answer of denovo is an explanation.
use Rattle.std.proofs.Common.{◌≡◌, inl, inr, ℕ, ◌≤◌, List, length, refl, sym, ap, subst, ◌∙◌, arith}
use Rattle.dn_base.specs.declared.status.Status as status
use Rattle.dn_top.specs.declared.options.Options.{Options}
use Rattle.dn_top.specs.Command.{OptionsInRange}
use Rattle.dn_top.specs.declared.output.Output.{Output}
use Rattle.dn_top.specs.Answers.{IsAnswer}
use Rattle.explained_answer.specs.declared.explaining.Explained.{Explained}
use Rattle.explained_answer.specs.declared.explaining.Explained.TheVariants.{Text, Refused}
use Rattle.explained_answer.specs.Explained.{IsExplained}
use Rattle.explained_answer.specs.Verdicts.{explained_verdict}
use Rattle.explain_top.specs.Answers.{Explanation, IsOutput, output_of, or_verdict}
use Rattle.companion_laws.specs.Taken.{IsTaken, is_beside}
use Rattle.companion_laws.proofs.Refused.{IsRefusedOnce}
use Rattle.companion_laws.proofs.Modes.{answer-taken}

done-with : (e : Explained) → IsTaken e → (output_of e).status ≡ status.TheVariants.Done
done-with (Text bytes) h = refl
done-with (Refused number) h = absurd h

-- an answer that is taken isn't looked at as a verdict
either-taken : (e verdict : Explained) → IsTaken e → IsTaken (or_verdict e verdict)
either-taken (Text bytes) verdict h = h
either-taken (Refused number) verdict h = absurd h

pub taken-done : (text bytes : List ℕ) (explanation : Explanation) → ((e : Explained) → IsExplained text bytes e → IsTaken e) → length bytes ≤ 536870912
    → IsOutput text bytes explanation → explanation.status ≡ status.TheVariants.Done
taken-done text bytes explanation taken few (inl h) =
    ap (λ (x : Explanation). x.status) h.output
    ∙ done-with h.explained (subst IsTaken (sym h.is.either) (either-taken h.is.by_denovo (explained_verdict text bytes) (taken h.is.by_denovo h.is.is)))
taken-done text bytes explanation taken few (inr h) = let large = h.large in absurd (omega (arith, few, large))

pub output-done : (once : IsRefusedOnce) (o : Options) (asked : List ℕ) (out : Output) (text : List ℕ) (explanation : Explanation) → OptionsInRange o → IsAnswer o asked out
    → is_beside o.mode asked text → length out.bytes ≤ 536870912 → IsOutput text out.bytes explanation → explanation.status ≡ status.TheVariants.Done
output-done once o asked out text explanation range is beside few h =
    taken-done text out.bytes explanation (λ e explained. answer-taken once o asked out text e range is beside explained) few h
