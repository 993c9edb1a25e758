-- Which locks the task alone acquires, and while it holds which.
use Rattle.std.proofs.Common.{◌≡◌, ℕ, zero, suc, ◌+◌, ◌-◌, ◌<◌, ◌≤◌, ◌==◌, ◌||◌, Bool, true, false, ◌&&◌, if◌then◌else◌, List, [], ◌∷◌, length, map, slice_index, slice_set, Some, None, is_none, refl, sym, ap, ◌∙◌, subst, arith, ⊎_elim, bit_or}
use Rattle.std.proofs.lemmas.Bool.{false≢true, cases_lt, or_cases, or_left, or_right, eq-eqb}
use Rattle.std.proofs.lemmas.Bool.Decides.{nat_tests}
use Rattle.std.proofs.lemmas.List.{length-set, length-replicate, get_or-set_same}
use Rattle.std.proofs.lemmas.Nat.Bits.{bit_at-lt, bit_at_or}
use Rattle.std.proofs.lemmas.Option.{none-some}
use Rattle.std.specs.List.{list_any}
use Rattle.dn_base.specs.declared.ids.LockId.{LockId}
use Rattle.region_table.specs.Program.{ProgramParts}
use Rattle.region_table.specs.declared.declared.TaskDecl.{TaskDecl}
use Rattle.region_table.specs.declared.declared.Phase.{Phase}
use Rattle.rv_core.specs.declared.task.End.{End}
use Rattle.rv_core.specs.declared.need.Need.{Need}
use Rattle.rv_core.specs.declared.need.Need as need
use Rattle.rv_core.specs.Access.{is_held}
use Rattle.rv_core.specs.Need.{need_of}
use Rattle.rv_core.proofs.HeldLemmas.{holds-none, holds-bit, holds-acquired}
use Rattle.common_outcomes.specs.Alone.{Setup, Alone, is_settled_next, acquire_alone, alone_by, alone_step, alone_steps, start_alone, alone}
use Rattle.common_outcomes.specs.declared.value.Value.{Value}
use Rattle.common_outcomes.specs.Phases.{Summary, setup, summary, summaries}
use Rattle.common_outcomes.proofs.Circles.{AreLocks}
use Rattle.common_outcomes.proofs.Phase.{still, ended-still, more-steps}
use Rattle.common_outcomes.proofs.Steps.{alone-goes}

pub holds-either : (a b k : ℕ) → is_held (bit_or a b) k ≡ (is_held a k || is_held b k)
holds-either a b k =
    rw (holds-bit (bit_or a b) k, holds-bit a k, holds-bit b k, bit_at_or a b k) (let x = bit_at-lt a k in let y = bit_at-lt b k in grind (arith, nat_tests))

-- ---- they grow

-- what holds of an element, and of a new one where it held of the old one, holds after the write
set-grows : (Q : ℕ → Type 0) (xs : List ℕ) (i x j : ℕ) → (Q (slice_index xs i) → Q x) → Q (slice_index xs j) → Q (slice_index (slice_set xs i x) j)
set-grows Q [] i x j f q = q
set-grows Q (y ∷ ys) zero x zero f q = f q
set-grows Q (y ∷ ys) zero x (suc j) f q = q
set-grows Q (y ∷ ys) (suc i) x zero f q = q
set-grows Q (y ∷ ys) (suc i) x (suc j) f q = set-grows Q ys i x j f q

-- the locks that a has acquired, and those that it held then, b has and held too
pub record Grows (a b : Alone) : Type 0 where
  pub acquired : (k : ℕ) → is_held a.acquired k ≡ true → is_held b.acquired k ≡ true
  pub over : (l k : ℕ) → is_held (slice_index a.over l) k ≡ true → is_held (slice_index b.over l) k ≡ true
  pub size : length b.over ≡ length a.over

grows-itself : (a : Alone) → Grows a a
grows-itself a = record { acquired = λ k e. e; over = λ l k e. e; size = refl }

grows-more : (a b c : Alone) → Grows a b → Grows b c → Grows a c
grows-more a b c h k =
    record { acquired = λ n e. k.acquired n (h.acquired n e); over = λ l n e. k.over l n (h.over l n e); size = k.size ∙ h.size }

need-grows : (S : Setup) (a : Alone) (n : Need) → Grows a (alone_by S a n)
need-grows S a need.TheVariants.Local = record { acquired = λ k e. e; over = λ l k e. e; size = refl }
need-grows S a (need.TheVariants.Load word) = record { acquired = λ k e. e; over = λ l k e. e; size = refl }
need-grows S a (need.TheVariants.Store word whole) = record { acquired = λ k e. e; over = λ l k e. e; size = refl }
need-grows S a (need.TheVariants.Acquire lock) =
    record {
      acquired = λ k e. holds-acquired a.acquired lock.0 k ∙ or_right (k == lock.0) (is_held a.acquired k) e;
      over = λ l k e. set-grows (λ (x : ℕ). is_held x k ≡ true) a.over lock.0 (bit_or (slice_index a.over lock.0) a.state.held) l
          (λ f. holds-either (slice_index a.over lock.0) a.state.held k ∙ or_left (is_held (slice_index a.over lock.0) k) (is_held a.state.held k) f) e;
      size = length-set a.over lock.0 (bit_or (slice_index a.over lock.0) a.state.held);
    }
need-grows S a (need.TheVariants.Release lock) = record { acquired = λ k e. e; over = λ l k e. e; size = refl }
need-grows S a (need.TheVariants.End by) = record { acquired = λ k e. e; over = λ l k e. e; size = refl }

step-grows : (S : Setup) (a : Alone) → Grows a (alone_step S a)
step-grows S a = by_test (is_none a.state.end && is_settled_next S a)
  where
    by_test : (b : Bool) → Grows a (if b then alone_by S a (need_of S.program S.decl S.fuel a.state) else a)
    by_test true = need-grows S a (need_of S.program S.decl S.fuel a.state)
    by_test false = grows-itself a

pub steps-grow : (S : Setup) (n : ℕ) (a : Alone) → Grows a (alone_steps S n a)
steps-grow S zero a = grows-itself a
steps-grow S (suc n) a = grows-more a (alone_step S a) (alone_steps S n (alone_step S a)) (step-grows S a) (steps-grow S n (alone_step S a))

-- one row for each of 32 locks
pub rows-count : (S : Setup) (n : ℕ) → length (alone_steps S n (start_alone S)).over ≡ 32
rows-count S n = (steps-grow S n (start_alone S)).size ∙ length-replicate {A = ℕ} 32 0

pub rows-alone : (S : Setup) → length (alone S).over ≡ 32
unfolding alone
rows-alone S = rows-count S (suc S.fuel)

-- ---- what is acquired at one point is acquired at the end

alone-later : (S : Setup) (k : ℕ) (by : End) → (alone S).state.end ≡ Some by → (alone_steps S k (start_alone S)).state.end ≡ None → Grows (alone_step S (alone_steps S k (start_alone S))) (alone S)
unfolding alone
alone-later S k by e runs = ⊎_elim (λ (l : k < whole). before (whole - suc k) (omega arith)) (λ (l : whole ≤ k). absurd (after (k - whole) (omega arith))) (cases_lt k whole)
  where
    whole : ℕ
    whole = suc S.fuel

    before : (n : ℕ) → k + suc n ≡ whole → Grows (alone_step S (alone_steps S k (start_alone S))) (alone_steps S whole (start_alone S))
    before n split =
        let is : alone_steps S whole (start_alone S) ≡ alone_steps S n (alone_step S (alone_steps S k (start_alone S))) =
        ap (λ (j : ℕ). alone_steps S j (start_alone S)) (sym split) ∙ more-steps S k (suc n) (start_alone S) in
        subst (Grows (alone_step S (alone_steps S k (start_alone S)))) (sym is) (steps-grow S n (alone_step S (alone_steps S k (start_alone S))))

    after : (n : ℕ) → whole + n ≡ k → ⊥
    after n split =
        let stays = still S n (alone_steps S whole (start_alone S)) (ended-still S (alone_steps S whole (start_alone S)) by e) in
        let same : alone_steps S k (start_alone S) ≡ alone_steps S whole (start_alone S) = ap (λ (j : ℕ). alone_steps S j (start_alone S)) (sym split) ∙ more-steps S whole n (start_alone S) ∙ stays in
        none-some by (sym runs ∙ ap (λ (a : Alone). a.state.end) same ∙ e)

-- the lock has been acquired, and while each lock was held that is held at this point
pub record HasAcquired (a : Alone) (held lock : ℕ) : Type 0 where
  pub acquired : is_held a.acquired lock ≡ true
  pub over : (k : ℕ) → is_held held k ≡ true → is_held (slice_index a.over lock) k ≡ true

pub acquired-alone : (S : Setup) (k : ℕ) (a : Alone) (by : End) (lock : LockId) → a ≡ alone_steps S k (start_alone S) → (alone S).state.end ≡ Some by → a.state.end ≡ None → is_settled_next S a ≡ true
    → need_of S.program S.decl S.fuel a.state ≡ need.TheVariants.Acquire lock → lock.0 < 32 → HasAcquired (alone S) a.state.held lock.0
acquired-alone S k a by lock is e runs settled n low =
    let goes : alone_step S a ≡ acquire_alone S.program a lock.0 = alone-goes S a runs settled ∙ ap (alone_by S a) n in
    let later : Grows (acquire_alone S.program a lock.0) (alone S) =
    subst (λ (x : Alone). Grows x (alone S)) goes (subst (λ (x : Alone). Grows (alone_step S x) (alone S)) (sym is) (alone-later S k by e (ap (λ (x : Alone). x.state.end) (sym is) ∙ runs))) in
    let count : length a.over ≡ 32 = ap (λ (x : Alone). length x.over) is ∙ rows-count S k in
    let row : slice_index (slice_set a.over lock.0 (bit_or (slice_index a.over lock.0) a.state.held)) lock.0 ≡ bit_or (slice_index a.over lock.0) a.state.held =
    get_or-set_same a.over lock.0 (bit_or (slice_index a.over lock.0) a.state.held) 0 (omega (arith, low, count)) in
    record {
      acquired = later.acquired lock.0 (holds-acquired a.acquired lock.0 lock.0 ∙ or_left (lock.0 == lock.0) (is_held a.acquired lock.0) (eq-eqb lock.0 lock.0 refl));
      over = λ j holds. later.over lock.0 j
          (ap (λ (x : ℕ). is_held x j) row ∙ holds-either (slice_index a.over lock.0) a.state.held j ∙ or_right (is_held (slice_index a.over lock.0) j) (is_held a.state.held j) holds);
    }

-- ---- each lock that is acquired is one of the 32

past-rows : (rows : List ℕ) (b : ℕ) → length rows ≤ b → slice_index rows b ≡ 0
past-rows [] b high = refl
past-rows (x ∷ rows) zero high = absurd (omega arith)
past-rows (x ∷ rows) (suc b) high = past-rows rows b (omega arith)

low-row : (rows : List ℕ) (a b : ℕ) → length rows ≡ 32 → is_held (slice_index rows b) a ≡ true → b < 32
low-row rows a b count e =
    ⊎_elim (λ (l : b < 32). l) (λ (l : 32 ≤ b). absurd (false≢true (sym (ap (λ (x : ℕ). is_held x a) (past-rows rows b (omega (arith, l, count))) ∙ holds-none a) ∙ e))) (cases_lt b 32)

pub are-locks : (P : ProgramParts) (fuel : ℕ) (p : Phase) (first : List Value) → AreLocks (summaries P fuel p first)
are-locks P fuel p first a b e = by_task p.tasks e
  where
    by_task : (ds : List TaskDecl) → list_any (λ (r : Summary). is_held (slice_index r.alone.over b) a) (map (summary P fuel p first) ds) ≡ true → b < 32
    by_task [] e = absurd (false≢true e)
    by_task (d ∷ ds) e =
        ⊎_elim (λ (h : is_held (slice_index (alone (setup P fuel p first d)).over b) a ≡ true). low-row (alone (setup P fuel p first d)).over a b (rows-alone (setup P fuel p first d)) h)
        (λ (h : list_any (λ (r : Summary). is_held (slice_index r.alone.over b) a) (map (summary P fuel p first) ds) ≡ true). by_task ds h)
        (or_cases (is_held (slice_index (alone (setup P fuel p first d)).over b) a) (list_any (λ (r : Summary). is_held (slice_index r.alone.over b) a) (map (summary P fuel p first) ds)) e)
