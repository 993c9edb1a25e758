-- A task alone: the locks that it acquires are the program's; and where it hasn't ended, its next instruction is one of the code's, and its
-- control is open.
use Rattle.std.proofs.Common.{◌≡◌, ◌≢◌, ◌⊎◌, inl, inr, ℕ, zero, suc, ◌≤◌, ◌<◌, ◌^◌, ◌==◌, Bool, true, false, ◌&&◌, if◌then◌else◌, length, replicate, slice_index, slice_set, Option, Some, None, is_none, refl, sym, ap, ◌∙◌, subst, arith, ⊎_elim, bit_or}
use Rattle.std.proofs.lemmas.Bool.{false≢true, true≢false, and_parts, or_cases, eqb-true, eqb-false}
use Rattle.std.proofs.lemmas.List.{get_or-set_other}
use Rattle.std.proofs.lemmas.Option.{none-some}
use Rattle.region_table.specs.Program.{ProgramParts}
use Rattle.rv_isa.specs.declared.instr.Instr.{Instr}
use Rattle.rv_core.specs.Access.{is_held}
use Rattle.rv_core.specs.Need.{need_of}
use Rattle.rv_core.specs.Step.{instr_at}
use Rattle.rv_core.specs.declared.task.End.{End}
use Rattle.rv_core.specs.declared.need.Need.{Need}
use Rattle.rv_core.specs.declared.need.Need as need
use Rattle.rv_core.proofs.Completions.{acquire-allowed}
use Rattle.rv_core.proofs.HeldLemmas.{holds-none, holds-acquired}
use Rattle.common_outcomes.specs.Alone.{Setup, Alone, is_settled_if, is_settled_next, alone_by, alone_step, alone_steps, start_alone, alone}
use Rattle.common_outcomes.proofs.Lockless.{one-more, last-step}
use Rattle.common_outcomes.proofs.Phase.{ended-still}

-- each lock that was acquired, and each that was while another one was held, is one of the program's
pub record HasLocks (P : ProgramParts) (a : Alone) : Type 0 where
  pub acquired : (k : ℕ) → is_held a.acquired k ≡ true → k < length P.locks
  pub over : (l k : ℕ) → is_held (slice_index a.over l) k ≡ true → l < length P.locks

zero-rows : (n l : ℕ) → slice_index (replicate n 0) l ≡ 0
zero-rows zero l = refl
zero-rows (suc n) zero = refl
zero-rows (suc n) (suc l) = zero-rows n l

module _ (S : Setup) where
  abbrev P : ProgramParts
  P = S.program

  -- ---- locks

  acquire-locks : (a : Alone) (lock : ℕ) → lock < length P.locks → HasLocks P a → HasLocks P (alone_by S a (need.TheVariants.Acquire (record { 0 = lock })))
  acquire-locks a lock low h = record { acquired = more; over = λ l k e. by_row l k (l == lock) refl e } where
    more : (k : ℕ) → is_held (bit_or a.acquired (2 ^ lock)) k ≡ true → k < length P.locks
    more k e =
        ⊎_elim (λ (same : (k == lock) ≡ true). subst (λ (n : ℕ). n < length P.locks) (sym (eqb-true k lock same)) low) (λ (old : is_held a.acquired k ≡ true). h.acquired k old)
        (or_cases (k == lock) (is_held a.acquired k) (sym (holds-acquired a.acquired lock k) ∙ e))

    by_row : (l k : ℕ) (b : Bool) → (l == lock) ≡ b → is_held (slice_index (slice_set a.over lock (bit_or (slice_index a.over lock) a.state.held)) l) k ≡ true → l < length P.locks
    by_row l k true same e = subst (λ (n : ℕ). n < length P.locks) (sym (eqb-true l lock same)) low
    by_row l k false other e =
        let apart : l ≢ lock = eqb-false l lock other in
        h.over l k (sym (ap (λ (row : ℕ). is_held row k) (get_or-set_other a.over lock l (bit_or (slice_index a.over lock) a.state.held) 0 apart)) ∙ e)

  need-locks : (a : Alone) (n : Need) → need_of P S.decl S.fuel a.state ≡ n → HasLocks P a → HasLocks P (alone_by S a n)
  need-locks a need.TheVariants.Local is h = record { acquired = h.acquired; over = h.over }
  need-locks a (need.TheVariants.Load word) is h = record { acquired = h.acquired; over = h.over }
  need-locks a (need.TheVariants.Store word whole) is h = record { acquired = h.acquired; over = h.over }
  need-locks a (need.TheVariants.Acquire lock) is h = acquire-locks a lock.0 (acquire-allowed P S.decl S.fuel a.state lock is).0 h
  need-locks a (need.TheVariants.Release lock) is h = record { acquired = h.acquired; over = h.over }
  need-locks a (need.TheVariants.End by) is h = record { acquired = h.acquired; over = h.over }

  step-locks : (a : Alone) → HasLocks P a → HasLocks P (alone_step S a)
  step-locks a h = by_test (is_none a.state.end && is_settled_next S a) where
    by_test : (b : Bool) → HasLocks P (if b then alone_by S a (need_of P S.decl S.fuel a.state) else a)
    by_test true = need-locks a (need_of P S.decl S.fuel a.state) refl h
    by_test false = h

  steps-locks : (n : ℕ) (a : Alone) → HasLocks P a → HasLocks P (alone_steps S n a)
  steps-locks zero a h = h
  steps-locks (suc n) a h = steps-locks n (alone_step S a) (step-locks a h)

  start-locks : HasLocks P (start_alone S)
  start-locks =
      record {
        acquired = λ k e. absurd (false≢true (sym (holds-none k) ∙ e));
        over = λ l k e. absurd (false≢true (sym (ap (λ (row : ℕ). is_held row k) (zero-rows 32 l) ∙ holds-none k) ∙ e));
      }

  pub alone-locks : HasLocks P (alone S)
  unfolding alone
  alone-locks = steps-locks (suc S.fuel) (start_alone S) start-locks

  -- ---- control

  -- a task whose control is open, or that has ended, isn't changed
  stays : (a : Alone) → is_settled_next S a ≡ false → a.state.end ≡ None → alone_step S a ≡ a
  stays a open' runs =
      let test : (is_none a.state.end && is_settled_next S a) ≡ false = ap (λ (o : Option End). is_none o && is_settled_next S a) runs ∙ open' in
      ap (λ (b : Bool). if b then alone_by S a (need_of P S.decl S.fuel a.state) else a) test

  abbrev after_steps : ℕ → Alone
  after_steps n = alone_steps S n (start_alone S)

  -- where a task hasn't ended it has retired an instruction in each step, and no more than it may; or its control is open
  abbrev IsOnTheWay : ℕ → Type 0
  IsOnTheWay n = (((after_steps n).state.retired ≡ n) × (n ≤ S.fuel)) ⊎ (is_settled_next S (after_steps n) ≡ false)

  on-the_way : (n : ℕ) → (after_steps n).state.end ≡ None → IsOnTheWay n
  on-the_way zero runs = inl (refl, omega arith)
  on-the_way (suc n) runs = by_end (after_steps n).state.end refl (on-the_way n) where
    goes : after_steps (suc n) ≡ alone_step S (after_steps n)
    goes = last-step S n

    by_settled : (b : Bool) → is_settled_next S (after_steps n) ≡ b → (after_steps n).state.end ≡ None → IsOnTheWay n → IsOnTheWay (suc n)
    by_settled true settled before (inl way) =
        let more = one-more S (after_steps n) before settled (ap (λ (a : Alone). a.state.end) (sym goes) ∙ runs) in
        let unspent : n ≢ S.fuel = λ e. more.unspent (way.0 ∙ e) in
        let one = more.retired in
        let here : (after_steps (suc n)).state.retired ≡ (alone_step S (after_steps n)).state.retired = ap (λ (a : Alone). a.state.retired) goes in
        let was = way.0 in
        let most = way.1 in
        inl (omega (arith, one, here, was), omega (arith, unspent, most))
    by_settled true settled before (inr open') = absurd (true≢false (sym settled ∙ open'))
    by_settled false open' before way = inr (ap (is_settled_next S) (goes ∙ stays (after_steps n) open' before) ∙ open')

    by_end : (o : Option End) → (after_steps n).state.end ≡ o → ((after_steps n).state.end ≡ None → IsOnTheWay n) → IsOnTheWay (suc n)
    by_end (Some by) ended before = absurd (none-some by (sym runs ∙ ap (λ (a : Alone). a.state.end) (goes ∙ ended-still S (after_steps n) by ended) ∙ ended))
    by_end None before way = by_settled (is_settled_next S (after_steps n)) refl before (way before)

  pub alone-open : (alone S).state.end ≡ None → is_settled_next S (alone S) ≡ false
  unfolding alone
  alone-open runs = by_way (on-the_way (suc S.fuel) runs) where
    by_way : IsOnTheWay (suc S.fuel) → is_settled_next S (after_steps (suc S.fuel)) ≡ false
    by_way (inl way) = let most = way.1 in absurd (omega (arith, most))
    by_way (inr open') = open'

  -- where control is open there is an instruction
  pub open-instruction : (a : Alone) → is_settled_next S a ≡ false → instr_at P a.state ≢ None
  open-instruction a open' = by_fuel (a.state.retired == S.fuel) open' where
    by_fuel : (b : Bool) → is_settled_if a.kinds a.state (if b then None else instr_at P a.state) ≡ false → instr_at P a.state ≢ None
    by_fuel true e none = true≢false e
    by_fuel false e none = true≢false (sym (ap (λ (o : Option Instr). is_settled_if a.kinds a.state o) none) ∙ e)
