-- No lock from 32 on is held.
use Rattle.std.proofs.Common.{◌≡◌, ℕ, ◌+◌, ◌-◌, ◌*◌, ◌^◌, ◌<◌, ◌≤◌, false, List, [], ◌∷◌, refl, arith, ap, ◌∙◌, sym}
use Rattle.std.specs.Int.Bits.{bit_and, and_shifted}
use Rattle.std.proofs.lemmas.Nat.{pow-add, and_comm}
use Rattle.std.proofs.lemmas.Bool.Decides.{nat_tests}
use Rattle.region_table.specs.declared.interval.Interval.{Interval}
use Rattle.rv_core.specs.Access.{is_held, under}

shifted : (lock : ℕ) → 32 ≤ lock → 2 ^ (lock - 32) * 2 ^ 32 ≡ 2 ^ lock
shifted lock high =
    let e : lock ≡ lock - 32 + 32 = omega arith in
    sym (pow-add 2 (lock - 32) 32) ∙ ap (λ k. 2 ^ k) (sym e)

pub holds-high : (held lock : ℕ) → held < 2 ^ 32 → 32 ≤ lock → is_held held lock ≡ false
holds-high held lock fits high =
    let low : bit_and (2 ^ (lock - 32) * 2 ^ 32) held ≡ 0 = and_shifted (2 ^ (lock - 32)) 32 held fits in
    let same : bit_and (2 ^ lock) held ≡ 0 = rw (← shifted lock high) low in
    rw and_comm (rw same refl)

pub under-high : (ss : List (List Interval)) (first held w : ℕ) → held < 2 ^ 32 → 32 ≤ first → under ss first held w ≡ false
under-high [] first held w fits high = refl
under-high (s ∷ ss) first held w fits high =
    let here = holds-high held first fits high in
    let rest = under-high ss (first + 1) held w fits (omega arith) in
    grind (arith, nat_tests)

pub ruleset high_locks = under-high
