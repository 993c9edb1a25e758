-- A claim agrees exactly where the run by its grants has the claimed loads and the claimed answer.
use Rattle.std.proofs.Common.{◌≡◌, ℕ, ◌+◌, nat_eq, if◌then◌else◌, List, ◌++◌, length, flat_map, Option, Some, None, is_none, unwrap_or, IfSome, Result, Ok, Err, IfOk, ◌↔◌, refl, sym, ap, subst, ◌∙◌, arith, length-append}
use Rattle.dn_base.specs.declared.ids.Grant.{Grant}
use Rattle.region_table.specs.Program.{ProgramParts}
use Rattle.flat_machine.specs.declared.ending.FlatEnd.{FlatEnd}
use Rattle.flat_machine.specs.declared.ending.TaskLoads.{TaskLoads}
use Rattle.flat_machine.specs.declared.refused.FlatRun.{FlatRun}
use Rattle.flat_machine.specs.declared.refused.FlatRun.TheVariants.{Whole, Refused}
use Rattle.flat_machine.specs.Refused.{IsRunBy}
use Rattle.flat_machine.proofs.RefusedLemmas.{comes-to_some, comes-to_one}
use Rattle.run_report.specs.Answer.{answer_of}
use Rattle.claims.specs.declared.claim.Claim.{Claim}
use Rattle.claims.specs.declared.claim.Question.{Question}
use Rattle.claims.specs.Claim.{IsClaimDocument, head_of, head_text, grant_row, loads_text, claim_text}
use Rattle.claims.specs.declared.verdict.Verdict.{Verdict}
use Rattle.claims.specs.declared.verdict.Verdict.TheVariants.{Agrees, Tasks}
use Rattle.claims.specs.Differences.{first_difference, is_same_task}
use Rattle.claims.specs.Judge.{IsJudgeable, tasks_verdict, loads_verdict, line_verdict, answer_verdict, end_verdict, verdict_of, IsVerdict, AgreesWithRun}
use Rattle.claims.specs.Right.{claim_of_run, IsRightClaim}
use Rattle.claims.proofs.Agreement.{first_difference-same, same-first_difference, byte-self, byte-exact, task-self, tasks-same, same-tasks, tasks-differ}

-- ---- what is claimed of loads

abbrev AreLoads : Option (List TaskLoads) → List TaskLoads → Type 0
AreLoads claimed right = IfSome claimed (λ (cs : List TaskLoads). cs ≡ right)

loads-same : (claimed : Option (List TaskLoads)) (right : List TaskLoads) → AreLoads claimed right → loads_verdict claimed right ≡ None
loads-same None right h = refl
loads-same (Some cs) right h =
    ap (λ (l : List TaskLoads). loads_verdict (Some l) right) h
    ∙ ap (λ (o : Option ℕ). if is_none o then tasks_verdict right right else Some Tasks) (first_difference-same is_same_task task-self right)
    ∙ tasks-same right

same-loads : (claimed : Option (List TaskLoads)) (right : List TaskLoads) → loads_verdict claimed right ≡ None → AreLoads claimed right
same-loads None right none = tt
same-loads (Some cs) right none = by_tasks (first_difference is_same_task cs right) refl none
  where
    by_tasks : (o : Option ℕ) → first_difference is_same_task cs right ≡ o → (if is_none o then tasks_verdict cs right else Some Tasks) ≡ None → cs ≡ right
    by_tasks None of is = same-tasks cs right of is
    by_tasks (Some place) of is = absurd (cc)

loads-differ : (claimed : Option (List TaskLoads)) (right : List TaskLoads) → loads_verdict claimed right ≡ Some Agrees → ⊥
loads-differ None right is = cc
loads-differ (Some cs) right is = by_tasks (first_difference is_same_task cs right) is
  where
    by_tasks : (o : Option ℕ) → (if is_none o then tasks_verdict cs right else Some Tasks) ≡ Some Agrees → ⊥
    by_tasks None of = tasks-differ cs right of
    by_tasks (Some place) of = cc

-- ---- the answer

answer-same : (right : List ℕ) → answer_verdict right right ≡ Agrees
unfolding answer_verdict
answer-same right = ap (line_verdict right) (first_difference-same nat_eq byte-self right)

same-answer : (claimed right : List ℕ) → answer_verdict claimed right ≡ Agrees → claimed ≡ right
unfolding answer_verdict
same-answer claimed right is = by_place (first_difference nat_eq claimed right) refl is
  where
    by_place : (o : Option ℕ) → first_difference nat_eq claimed right ≡ o → line_verdict right o ≡ Agrees → claimed ≡ right
    by_place None of says = same-first_difference nat_eq byte-exact claimed right of
    by_place (Some place) of says = absurd (cc)

-- ---- the end

both-agree : (o : Option Verdict) (v : Verdict) → (o ≡ Some Agrees → ⊥) → unwrap_or o v ≡ Agrees → (o ≡ None) × (v ≡ Agrees)
both-agree None v never is = (refl, is)
both-agree (Some w) v never is = absurd (never (ap Some is))

end-same : (c : Claim) (e : FlatEnd) → AreLoads c.loads e.loads → c.answer ≡ answer_of e.ending → end_verdict c e ≡ Agrees
unfolding end_verdict
end-same c e loads answer =
    ap (λ (o : Option Verdict). unwrap_or o (answer_verdict c.answer (answer_of e.ending))) (loads-same c.loads e.loads loads)
    ∙ ap (λ (l : List ℕ). answer_verdict l (answer_of e.ending)) answer
    ∙ answer-same (answer_of e.ending)

same-end : (c : Claim) (e : FlatEnd) → end_verdict c e ≡ Agrees → AreLoads c.loads e.loads × (c.answer ≡ answer_of e.ending)
unfolding end_verdict
same-end c e is =
    let parts = both-agree (loads_verdict c.loads e.loads) (answer_verdict c.answer (answer_of e.ending)) (loads-differ c.loads e.loads) is in
    (same-loads c.loads e.loads parts.0, same-answer c.answer (answer_of e.ending) parts.1)

-- ---- the claim

module _ (P : ProgramParts) (c : Claim) where
  pub one_verdict : (v w : Verdict) → IsVerdict P c v → IsVerdict P c w → v ≡ w
  one_verdict v w h k =
      h.is ∙ ap (verdict_of c) (comes-to_one P c.question.fuel c.grants h.run k.run h.by k.by) ∙ sym k.is

  pub some_verdict : (v : Verdict) × IsVerdict P c v
  some_verdict =
      let r = comes-to_some P c.question.fuel c.grants in
      (verdict_of c r.0, record { run = r.0; by = r.1; is = refl })

  pub agrees_run : IsVerdict P c Agrees → AgreesWithRun P c
  agrees_run h = by_run h.run h.by h.is
    where
      by_run : (r : FlatRun) → IsRunBy P c.question.fuel c.grants r → Agrees ≡ verdict_of c r → AgreesWithRun P c
      by_run (Refused place) by is = absurd (cc)
      by_run (Whole e) by is =
          let parts = same-end c e (sym is) in
          record { end' = e; run = by; loads = parts.0; answer = parts.1 }

  pub run_agrees : AgreesWithRun P c → IsVerdict P c Agrees
  run_agrees h = record { run = Whole h.end'; by = h.run; is = sym (end-same c h.end' h.loads h.answer) }

  pub agrees_exactly : (v : Verdict) → IsVerdict P c v → (v ≡ Agrees) ↔ AgreesWithRun P c
  agrees_exactly v h =
      (λ (is : v ≡ Agrees). agrees_run (subst (IsVerdict P c) is h), λ (k : AgreesWithRun P c). one_verdict v Agrees h (run_agrees k))

-- the same of an answer that may be no verdict
pub agrees_where : {E : Type 0} (P : ProgramParts) (c : Claim) (r : Result Verdict E) → IfOk r (IsVerdict P c) → IfOk r (λ (v : Verdict). (v ≡ Agrees) ↔ AgreesWithRun P c)
agrees_where P c (Ok v) h = agrees_exactly P c v h
agrees_where P c (Err e) h = tt

pub right_agrees : (P : ProgramParts) (q : Question) (gs : List Grant) (c : Claim) → IsRightClaim P q gs c → IsVerdict P c Agrees
right_agrees P q gs c h =
    let told : IsVerdict P (claim_of_run q gs h.end') Agrees = run_agrees P (claim_of_run q gs h.end') (record { end' = h.end'; run = h.run; loads = refl; answer = refl }) in
    subst (λ (d : Claim). IsVerdict P d Agrees) (sym h.is) told

pub judgeable : (bytes : List ℕ) (c : Claim) → IsClaimDocument bytes c → IsJudgeable c
unfolding claim_text
judgeable bytes c h =
    let front : List ℕ = head_text (head_of c) ++ flat_map grant_row c.grants ++ loads_text c.loads in
    let all : length bytes ≡ length front + length c.answer = ap length h.is ∙ length-append front c.answer in
    let within = h.within in
    record { told = h.told; answer = omega arith }
