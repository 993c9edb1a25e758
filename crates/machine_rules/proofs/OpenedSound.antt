-- The machine as a run begins is sound.
use Rattle.std.proofs.Common.{◌≡◌, ℕ, zero, suc, ◌+◌, Bool, true, false, cond, nat_lt, List, [], ◌∷◌, length, replicate, slice_get, slice_index, Some, None, refl, sym, ap, subst, ◌∙◌, arith}
use Rattle.std.specs.Option.{is_some}
use Rattle.std.proofs.lemmas.Bool.Decides.{nat_tests}
use Rattle.std.proofs.lemmas.List.{length-replicate}
use Rattle.std.proofs.lemmas.List.FromFn.{length-map-range_with_len}
use Rattle.effect_checker.specs.Checked.{IsChecked}
use Rattle.queue_lock.specs.Lock.{free_lock}
use Rattle.registry_bank.specs.Bank.{BankParts, initial_bank, first_word}
use Rattle.registry_bank.proofs.Opened.{IsBank-opened}
use Rattle.registration_protocol.specs.Node.{NodeParts, Setting, initial_node}
use Rattle.registration_protocol.specs.Fit.{Fits}
use Rattle.registration_protocol.proofs.FitLemmas.{opened-fits}
use Rattle.machine_rules.specs.State.{initial_state, home_at, lock_at}
use Rattle.machine_rules.specs.Sound.{IsShaped, IsOfTasks, IsWellFormed, IsMachine, IsSound, IsNodeAt, IsBankAt}
use Rattle.machine_rules.proofs.OpenedFacts.{opened-setting, opened-node, opened-banks, opened-home, opened-lock}

home-there : (C : Setting) (w : ℕ) → IsShaped C → is_some (home_at (initial_state C) w) ≡ nat_lt w (length C.program.memory)
home-there C w context = ap is_some (opened-home C w context) ∙ by_list C.program.memory w where
  by_list : (xs : List ℕ) (i : ℕ) → is_some (first_word (slice_get xs i)) ≡ nat_lt i (length xs)
  by_list [] i = grind (arith, nat_tests)
  by_list (x ∷ xs) zero = grind (arith, nat_tests)
  by_list (x ∷ xs) (suc i) = by_list xs i ∙ grind (arith, nat_tests)

lock-there : (C : Setting) (l : ℕ) → IsShaped C → is_some (lock_at (initial_state C) l) ≡ nat_lt l (length C.program.locks)
lock-there C l context = ap is_some (opened-lock C l context) ∙ by_test (nat_lt l (length C.program.locks)) where
  by_test : (t : Bool) → is_some (cond t (Some (free_lock C.shape.cores)) None) ≡ t
  by_test true = refl
  by_test false = refl

node-at : (C : Setting) (core : ℕ) (n : NodeParts) → IsShaped C → slice_get (initial_state C).nodes core ≡ Some n → IsNodeAt (initial_state C) core n
node-at C core n context found =
    let new = opened-node C core n found in
    subst (IsNodeAt (initial_state C) core) (sym new.is)
    (record { fits = subst (λ (D : Setting). Fits D (initial_node C core)) (sym (opened-setting C)) (opened-fits C core new.below); core = refl })

bank-at : (C : Setting) (bank : ℕ) (b : BankParts) → slice_get (initial_state C).banks bank ≡ Some b → IsBankAt (initial_state C) bank b
bank-at C bank b found = by_test (nat_lt bank C.shape.banks) refl (sym (opened-banks C bank) ∙ found) where
  new : BankParts
  new = initial_bank bank C.shape.banks C.shape.cores C.program.memory (length C.program.locks)

  by_test : (t : Bool) → nat_lt bank C.shape.banks ≡ t → cond t (Some new) None ≡ Some b → IsBankAt (initial_state C) bank b
  by_test true e is =
      let same : new ≡ b = cc in
      let stands : IsBankAt (initial_state C) bank new = record {
        well = IsBank-opened bank C.shape.banks C.shape.cores C.program.memory (length C.program.locks) (grind (arith, nat_tests, e));
        bank = refl;
        banks = sym (ap (λ (D : Setting). D.shape.banks) (opened-setting C));
        cores = sym (ap (λ (D : Setting). D.shape.cores) (opened-setting C));
      } in
      subst (IsBankAt (initial_state C) bank) same stands
  by_test false e is = absurd (cc)

pub opened-machine : (C : Setting) → IsShaped C → IsOfTasks C.program → IsChecked C.program → IsMachine (initial_state C)
unfolding initial_state
opened-machine C context program checked =
    record {
      context = context;
      program = program;
      checked = checked;
      nodes = length-map-range_with_len (initial_node C) 0 C.shape.cores;
      banks = length-map-range_with_len (λ (bank : ℕ). initial_bank bank C.shape.banks C.shape.cores C.program.memory (length C.program.locks)) 0 C.shape.banks;
      numbers = length-replicate (C.shape.cores + C.shape.banks + 1) 0;
      node = λ core n found. node-at C core n context found;
      bank = λ bank b found. bank-at C bank b found;
      words = λ w. home-there C w context;
      locks = λ l. lock-there C l context;
      cores = length-replicate C.shape.cores false;
      phases = refl;
      distinct = λ id. omega arith;
      numbered = λ place m found. absurd (cc);
    }

-- no actor has used a number
none-used : (n i : ℕ) → slice_index (replicate n 0) i ≡ 0
none-used zero i = refl
none-used (suc n) zero = refl
none-used (suc n) (suc i) = none-used n i

numbers-none : (C : Setting) (i : ℕ) → slice_index (initial_state C).numbers i ≡ 0
unfolding initial_state
numbers-none C i = none-used (C.shape.cores + C.shape.banks + 1) i

mails-none : (C : Setting) → length (initial_state C).mails ≡ 0
unfolding initial_state
mails-none C = refl

phase-first : (C : Setting) → (initial_state C).keeper.phase ≡ 0
unfolding initial_state
phase-first C = refl

pub opened-sound : (C : Setting) → IsWellFormed C → IsSound (initial_state C) 0
opened-sound C well =
    record {
      machine = opened-machine C well.context well.program well.checked;
      mails = omega (arith, mails-none C);
      sent = λ place. omega (arith, numbers-none C place);
      within = omega (arith, phase-first C);
    }
