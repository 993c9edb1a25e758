use Rattle.std.proofs.Common.{◌≡◌, ℕ, ◌+◌, ◌-◌, suc, List, ◌++◌, sym, ap, ◌∙◌, arith, append_assoc}
use Rattle.claims.specs.DiagnosisText.{line_of_held, holds_from}
use Rattle.claims.proofs.diagnosis_writing.push_all_holds.Goals as goal

pub loop-lock-preserved : goal.loop-lock-preserved
loop-lock-preserved c =
    let lock = c.loop-lock.lock in
    let held = c.args.held in
    let old : List ℕ = c.loop-lock.out.items in
    let rest : List ℕ = holds_from (32 - (lock + 1)) (lock + 1) held in
    let left : 32 - lock ≡ suc (32 - (lock + 1)) = omega arith in
    ap (λ (out : List ℕ). out ++ rest) c.in_ok-push_holds.ensures
    ∙ append_assoc old (line_of_held held lock) rest
    ∙ ap (λ (n : ℕ). old ++ holds_from n lock held) (sym left)
    ∙ c.loop-lock.invariant
