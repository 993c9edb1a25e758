-- A claim whose grants aren't legal and whole has a verdict on its grants.
use Rattle.std.proofs.Common.{◌≡◌, ℕ, sym, ap, ◌∙◌}
use Rattle.region_table.specs.Program.{ProgramParts}
use Rattle.flat_machine.specs.declared.refused.FlatRun.TheVariants.{Refused}
use Rattle.flat_machine.specs.Refused.{IsRunBy}
use Rattle.flat_machine.proofs.RefusedLemmas.{comes-to_one}
use Rattle.claims.specs.declared.claim.Claim.{Claim}
use Rattle.claims.specs.declared.verdict.Verdict.{Verdict}
use Rattle.claims.specs.declared.verdict.Verdict.TheVariants.{Grants, Tasks}
use Rattle.claims.specs.Judge.{verdict_of, IsVerdict}

pub no-tasks : (P : ProgramParts) (c : Claim) (v : Verdict) (place : ℕ) → IsVerdict P c v → v ≡ Tasks → IsRunBy P c.question.fuel c.grants (Refused place) → ⊥
no-tasks P c v place h is by =
    let same = comes-to_one P c.question.fuel c.grants h.run (Refused place) h.by by in
    let bad : Tasks ≡ Grants place = sym is ∙ h.is ∙ ap (verdict_of c) same in
    cc
