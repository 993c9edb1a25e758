use Rattle.std.proofs.Common.{◌*◌, ◌/◌, ◌^◌, ◌<◌, ◌≤◌, sym, arith, ⊎_elim, ◌∙◌, nat_lt}
use Rattle.std.proofs.lemmas.Bool.{cond-false, le-ltb, cases_lt}
use Rattle.std.proofs.lemmas.Nat.{le-div, pow_pos}
use Rattle.effect_prover.specs.Range.{every}
use Rattle.effect_prover.specs.declared.range.Range.{Range}
use Rattle.effect_prover.proofs.range.Range.shifted_left.Goals as goal

pub returns-else-self-amount : goal.returns-else-self-amount
returns-else-self-amount c =
    let a : Range = c.args.self in
    let n = c.args.amount in
    let past : 4294967295 / 2 ^ n < a.hi = c.if-self-amount.false in
    let over : 2 ^ 32 ≤ a.hi * 2 ^ n =
    ⊎_elim
    (λ (less : a.hi * 2 ^ n < 2 ^ 32).
    let within = le-div a.hi 4294967295 (2 ^ n) (pow_pos n) (omega arith) in absurd (omega arith))
    (λ (h : 2 ^ 32 ≤ a.hi * 2 ^ n). h)
    (cases_lt (a.hi * 2 ^ n) (2 ^ 32)) in
    c.every.ensures ∙ sym (cond-false (nat_lt (a.hi * 2 ^ n) (2 ^ 32)) (record { lo = a.lo * 2 ^ n; hi = a.hi * 2 ^ n }) every (le-ltb (a.hi * 2 ^ n) (2 ^ 32) over))
