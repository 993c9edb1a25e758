-- What the machine is as a run begins, part by part.
use Rattle.std.proofs.Common.{◌≡◌, ℕ, zero, suc, ◌+◌, ◌%◌, ◌<◌, ◌==◌, Bool, true, false, cond, nat_lt, length, map, slice_get, Some, None, refl, sym, ap, ◌∙◌, arith}
use Rattle.std.specs.Prelude.{option_map}
use Rattle.std.specs.List.{range_with_len}
use Rattle.std.proofs.lemmas.Bool.Decides.{nat_tests}
use Rattle.std.proofs.lemmas.Option.{slice_get-map}
use Rattle.queue_lock.specs.Lock.{free_lock}
use Rattle.registry_bank.specs.Bank.{initial_bank, first_word, IsNewBank}
use Rattle.registry_bank.proofs.Opened.{opened-is-new}
use Rattle.phase_barrier.specs.Barrier.{initial_barrier}
use Rattle.registration_protocol.specs.Node.{NodeParts, Setting, initial_node}
use Rattle.machine_rules.specs.Sound.{IsShaped}
use Rattle.machine_rules.specs.State.{initial_state, entry_in, entry_at, word_in, home_at, lock_in, lock_at}
use Rattle.machine_rules.specs.Flight.{Test, flight}

-- what stands in a list that is made from numbers
get-range : (from n k : ℕ) → slice_get (range_with_len from n) k ≡ cond (nat_lt k n) (Some (from + k)) None
get-range from zero k = grind (arith, nat_tests)
get-range from (suc n) zero = grind (arith, nat_tests)
get-range from (suc n) (suc k) = grind (arith, nat_tests, get-range (from + 1) n k)

pub get-made : {X : Type 0} (f : ℕ → X) (n k : ℕ) → slice_get (map f (range_with_len 0 n)) k ≡ cond (nat_lt k n) (Some (f k)) None
get-made {X} f n k = slice_get-map f (range_with_len 0 n) k ∙ ap (option_map f) (get-range 0 n k) ∙ by_test (nat_lt k n) where
  by_test : (t : Bool) → option_map f (cond t (Some (0 + k)) None) ≡ cond t (Some (f k)) None
  by_test true =
      let same : 0 + k ≡ k = omega arith in
      ap (λ (x : ℕ). Some (f x)) same
  by_test false = refl

pub opened-setting : (C : Setting) → (initial_state C).setting ≡ C
unfolding initial_state
opened-setting C = refl

pub opened-flight : (C : Setting) (p : Test) → flight (initial_state C) p ≡ 0
unfolding initial_state
opened-flight C p = refl

pub opened-keeper : (C : Setting) → (initial_state C).keeper ≡ initial_barrier C.shape.cores (length C.program.phases)
unfolding initial_state
opened-keeper C = refl

opened-nodes : (C : Setting) (c : ℕ) → slice_get (initial_state C).nodes c ≡ cond (nat_lt c C.shape.cores) (Some (initial_node C c)) None
unfolding initial_state
opened-nodes C c = get-made (initial_node C) C.shape.cores c

-- a node of the opened machine
pub record IsNewNode (C : Setting) (c : ℕ) (n : NodeParts) : Type 0 where
  pub below : c < C.shape.cores
  pub is : n ≡ initial_node C c

pub opened-node : (C : Setting) (c : ℕ) (n : NodeParts) → slice_get (initial_state C).nodes c ≡ Some n → IsNewNode C c n
opened-node C c n found = by_test (nat_lt c C.shape.cores) refl (sym (opened-nodes C c) ∙ found) where
  by_test : (t : Bool) → nat_lt c C.shape.cores ≡ t → cond t (Some (initial_node C c)) None ≡ Some n → IsNewNode C c n
  by_test true e is = record { below = grind (arith, nat_tests, e); is = cc }
  by_test false e is = absurd (cc)

pub opened-entry : (C : Setting) (c w : ℕ) → entry_at (initial_state C) c w ≡ None
opened-entry C c w = ap (entry_in w) (opened-nodes C c) ∙ by_test (nat_lt c C.shape.cores) where
  by_test : (t : Bool) → entry_in w (cond t (Some (initial_node C c)) None) ≡ None
  by_test true = refl
  by_test false = refl

pub opened-banks : (C : Setting) (bank : ℕ) → slice_get (initial_state C).banks bank ≡ cond (nat_lt bank C.shape.banks) (Some (initial_bank bank C.shape.banks C.shape.cores C.program.memory (length C.program.locks))) None
unfolding initial_state
opened-banks C bank = get-made (λ (bank : ℕ). initial_bank bank C.shape.banks C.shape.cores C.program.memory (length C.program.locks)) C.shape.banks bank

-- the bank of a number is there
bank-of : (C : Setting) (n : ℕ) → IsShaped C → slice_get (initial_state C).banks (n % C.shape.banks) ≡ Some (initial_bank (n % C.shape.banks) C.shape.banks C.shape.cores C.program.memory (length C.program.locks))
bank-of C n context =
    let within : nat_lt (n % C.shape.banks) C.shape.banks ≡ true = grind (arith, nat_tests, context.some_banks) in
    opened-banks C (n % C.shape.banks) ∙ rw (within) refl

new-bank : (C : Setting) (n : ℕ) → IsShaped C → IsNewBank (n % C.shape.banks) C.shape.banks C.shape.cores C.program.memory (length C.program.locks) (initial_bank (n % C.shape.banks) C.shape.banks C.shape.cores C.program.memory (length C.program.locks))
new-bank C n context = opened-is-new (n % C.shape.banks) C.shape.banks C.shape.cores C.program.memory (length C.program.locks) (omega (arith, context.some_banks))

home-found : (C : Setting) (w : ℕ) → home_at (initial_state C) w ≡ word_in w (slice_get (initial_state C).banks (w % C.shape.banks))
unfolding initial_state
home-found C w = refl

lock-found : (C : Setting) (l : ℕ) → lock_at (initial_state C) l ≡ lock_in l (slice_get (initial_state C).banks (l % C.shape.banks))
unfolding initial_state
lock-found C l = refl

same-number : (n : ℕ) → (n == n) ≡ true
same-number n = grind (arith, nat_tests)

pub opened-home : (C : Setting) (w : ℕ) → IsShaped C → home_at (initial_state C) w ≡ first_word (slice_get C.program.memory w)
opened-home C w context =
    home-found C w ∙ ap (word_in w) (bank-of C w context) ∙ (new-bank C w context).each_word w ∙ rw (same-number (w % C.shape.banks)) refl

pub opened-lock : (C : Setting) (l : ℕ) → IsShaped C → lock_at (initial_state C) l ≡ cond (nat_lt l (length C.program.locks)) (Some (free_lock C.shape.cores)) None
opened-lock C l context =
    lock-found C l ∙ ap (lock_in l) (bank-of C l context) ∙ (new-bank C l context).each_lock l ∙ rw (same-number (l % C.shape.banks)) refl
