-- The claim of any run agrees: one thread that takes its grants loads the same and ends the same.
use Rattle.std.proofs.Common.{◌≡◌, ℕ, List, Option, Some, None, IfSome, sym, ap, ◌∙◌}
use Rattle.message_net.specs.declared.event.Event.{Event}
use Rattle.registration_protocol.specs.Node.{Setting}
use Rattle.flat_machine.specs.declared.ending.TaskLoads.{TaskLoads}
use Rattle.flat_machine.specs.Ending.{flat_end}
use Rattle.run_agreement.proofs.EndAgrees.{end-agrees}
use Rattle.run_report.specs.Answer.{answer_of}
use Rattle.claims.specs.declared.claim.Claim.{Claim}
use Rattle.claims.specs.declared.verdict.Verdict.TheVariants.{Agrees}
use Rattle.claims.specs.Judge.{IsVerdict, AgreesWithRun}
use Rattle.claims.proofs.Verdicts.{run_agrees}
use Rattle.referee_top.specs.declared.mode.RefereeMode as mode
use Rattle.referee_top.specs.Answers.{Reply, IsAnswer, verdict_reply}
use Rattle.referee_top.proofs.Agreeing.{true-agrees}
use Rattle.companion_laws.specs.Claims.{IsClaimOf, IsClaimOfRun}

pub loads-claimed : (claimed : Option (List TaskLoads)) (seen right : List TaskLoads) → right ≡ seen → IfSome claimed (λ (cs : List TaskLoads). cs ≡ seen) → IfSome claimed (λ (cs : List TaskLoads). cs ≡ right)
loads-claimed None seen right same h = tt
loads-claimed (Some cs) seen right same h = h ∙ sym same

run-agrees : (C : Setting) (events : List Event) (c : Claim) → IsClaimOf C events c → AgreesWithRun C.program c
run-agrees C events c h =
    let flat = end-agrees C events h.ready h.run in
    record {
      end' = flat.end';
      run = ap (λ (f : ℕ). flat_end C.program f c.grants) (sym h.fuel) ∙ ap (λ gs. flat_end C.program C.fuel gs) h.grants ∙ flat.run;
      loads = loads-claimed c.loads _ flat.end'.loads flat.loads h.loads;
      answer = h.answer ∙ ap answer_of (sym flat.ending);
    }

pub run-verdict : (C : Setting) (events : List Event) (c : Claim) → IsClaimOf C events c → IsVerdict C.program c Agrees
run-verdict C events c h = run_agrees C.program c (run-agrees C events c h)

pub run-said : (document : List ℕ) (out : Reply) → IsClaimOfRun document → IsAnswer mode.TheVariants.Judge document out → out ≡ verdict_reply Agrees
run-said document out h is =
    let of = h.holds in
    true-agrees document out
    (record { value = h.value; is = h.is; holds = record { program = of.setting.program; is = of.program; checked = of.is.ready.checked; holds = run-agrees of.setting of.events h.value of.is } })
    is
