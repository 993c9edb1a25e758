-- The machine as a run begins keeps the invariant.
use Rattle.std.proofs.Common.{◌≡◌, ◌⊎◌, inl, inr, ℕ, zero, suc, ◌+◌, ◌<◌, ◌≤◌, ◌==◌, ◌&&◌, not, Bool, true, false, cond, nat_lt, List, [], ◌∷◌, length, replicate, slice_get, slice_index, slice_index_or, Option, Some, None, refl, sym, ap, subst, ◌∙◌, arith}
use Rattle.std.proofs.lemmas.Bool.{eqb-true}
use Rattle.std.specs.Prelude.{option_map}
use Rattle.std.specs.Option.{option_and_then}
use Rattle.std.specs.List.{find}
use Rattle.std.proofs.lemmas.Bool.Decides.{nat_tests}
use Rattle.dn_base.specs.declared.ids.CoreId.{CoreId}
use Rattle.region_table.specs.declared.declared.TaskDecl.{TaskDecl}
use Rattle.region_table.specs.declared.declared.Phase.{Phase}
use Rattle.region_table.specs.Tasks.{is_for, declared}
use Rattle.rv_core.specs.declared.task.TaskState.{TaskState}
use Rattle.rv_core.specs.declared.task.End.TheVariants.{Finished}
use Rattle.rv_core.specs.Task.{started}
use Rattle.write_signature.proofs.SignatureLemmas.{tag-empty}
use Rattle.queue_lock.specs.Lock.{Lock, free_lock}
use Rattle.registry_bank.specs.declared.bank.BankWord.TheVariants.{Home, Reg}
use Rattle.registry_bank.specs.Bank.{first_word}
use Rattle.phase_barrier.specs.Barrier.{Barrier, all_arrived, initial_barrier}
use Rattle.phase_barrier.proofs.ArrivalLemmas.{unmarked}
use Rattle.phase_barrier.proofs.CountLemmas.{missing-one}
use Rattle.registration_protocol.specs.Node.{NodeParts, Setting, is_running, initial_node}
use Rattle.machine_rules.specs.Sound.{IsShaped, IsWellFormed}
use Rattle.registration_protocol.specs.Parts.{held_locks}
use Rattle.machine_rules.specs.State.{initial_state, lock_at}
use Rattle.machine_rules.specs.Flight.{bit, is_reg_req_of, is_reg_fwd_of, is_reg_fwd_to, is_reg_fwd_to_itself, is_reg_ack_to, is_write_back_of, is_wb_ack_to, is_read_req_of, is_read_fwd_of, is_read_fwd_to, is_data_reply_to, is_false_data_reply, is_acquire_of, is_release_of, is_grant_to, is_arrival_of, is_go_to, is_halt_to}
use Rattle.machine_rules.specs.Coherent.{HasArrived, has_lock, holds_lock, node_is_locking, queued_in, holder_in, is_alive, waits_at_keeper}
use Rattle.machine_rules.proofs.Bits.{pending_bit, settled_bit, leaving_bit, owner_bit, reading_in}
use Rattle.machine_rules.proofs.Invariant.{Invariant, WordsGood, WordRow, word_counts, LocksGood, LockRow, lock_counts, PhasesGood, PhaseRow, phase_counts, ReadsGood, ReadRow, read_counts, ValuesGood, CopiesGood, is_lost, is_late, is_unlike, is_astray, is_lie}
use Rattle.machine_rules.proofs.OpenedFacts.{opened-setting, opened-flight, opened-keeper, opened-node, opened-entry, opened-home, opened-lock}
use Rattle.machine_rules.proofs.OpenedSound.{opened-machine}

-- ---- words

no-owner : (c : ℕ) (o : Option ℕ) → owner_bit c (first_word o) ≡ 0
no-owner c None = refl
no-owner c (Some value) = refl

words-row : (C : Setting) (w c : ℕ) → IsShaped C → WordRow (word_counts (initial_state C) w c)
words-row C w c context =
    let entry = opened-entry C c w in
    omega (
      arith,
      ap pending_bit entry,
      ap settled_bit entry,
      ap leaving_bit entry,
      ap (owner_bit c) (opened-home C w context),
      no-owner c (slice_get C.program.memory w),
      opened-flight C (is_reg_req_of w c),
      opened-flight C (is_reg_fwd_of w c),
      opened-flight C (is_reg_ack_to w c),
      opened-flight C (is_reg_fwd_to w c),
      opened-flight C (is_reg_fwd_to_itself w c),
      opened-flight C (is_write_back_of w c),
      opened-flight C (is_wb_ack_to w c),
    )

words-open : (C : Setting) → IsShaped C → WordsGood (initial_state C)
words-open C context =
    record {
      row = λ w c. words-row C w c context;
      single = λ w c d. omega (arith, ap pending_bit (opened-entry C c w), ap pending_bit (opened-entry C d w));
      valued = λ w c value is. let none = opened-entry C c w in absurd (cc);
      right = λ c w one. absurd (omega (arith, one, ap pending_bit (opened-entry C c w)));
    }

-- ---- locks

-- no lock is held or waited for at its home
pub lock-free : (C : Setting) (l : ℕ) (h : Lock) → IsShaped C → lock_at (initial_state C) l ≡ Some h → h ≡ free_lock C.shape.cores
lock-free C l h context found = by_test (nat_lt l (length C.program.locks)) (sym (opened-lock C l context) ∙ found) where
  by_test : (t : Bool) → cond t (Some (free_lock C.shape.cores)) None ≡ Some h → h ≡ free_lock C.shape.cores
  by_test true is = cc
  by_test false is = absurd (cc)

lock-unused : (C : Setting) (l c : ℕ) → IsShaped C → holder_in c (lock_at (initial_state C) l) + queued_in c (lock_at (initial_state C) l) ≡ 0
lock-unused C l c context = by_lock (lock_at (initial_state C) l) refl where
  by_lock : (o : Option Lock) → lock_at (initial_state C) l ≡ o → holder_in c o + queued_in c o ≡ 0
  by_lock None is = refl
  by_lock (Some h) is = rw (lock-free C l h context is) refl

-- a task that has just started holds nothing
none-held : (o : Option TaskDecl) → held_locks (option_map started o) ≡ 0
none-held None = refl
none-held (Some d) = refl

pub node-unlocked : (C : Setting) (l c : ℕ) → bit (has_lock (initial_state C) c l) + bit (node_is_locking l (slice_get (initial_state C).nodes c)) ≡ 0
node-unlocked C l c = by_node (slice_get (initial_state C).nodes c) refl where
  by_node : (o : Option NodeParts) → slice_get (initial_state C).nodes c ≡ o → bit (holds_lock l o) + bit (node_is_locking l o) ≡ 0
  by_node None is = refl
  by_node (Some n) is = rw ((opened-node C c n is).is, none-held (declared C.program 0 c)) refl

locks-row : (C : Setting) (l c : ℕ) → IsShaped C → LockRow (lock_counts (initial_state C) l c)
locks-row C l c context =
    omega (arith, lock-unused C l c context, node-unlocked C l c, opened-flight C (is_acquire_of l c), opened-flight C (is_release_of l c), opened-flight C (is_grant_to l c))

locks-open : (C : Setting) → IsShaped C → LocksGood (initial_state C)
locks-open C context =
    record {
      row = λ l c. locks-row C l c context;
      kept = λ l h found. rw (lock-free C l h context found) (omega (arith, tag-empty 0));
      released = opened-flight C (is_late (initial_state C).keeper.phase);
      granted = λ l h found. opened-flight C (is_unlike l h.kept);
    }

-- ---- phases

no-mark : (n c : ℕ) → slice_index_or (replicate n false) c false ≡ false
no-mark zero c = refl
no-mark (suc n) zero = refl
no-mark (suc n) (suc c) = no-mark n c

unmarked-core : (C : Setting) (c : ℕ) → slice_index_or (initial_state C).keeper.arrived c false ≡ false
unmarked-core C c = rw (opened-keeper C) (no-mark C.shape.cores c)

nobody-waits : (C : Setting) (c : ℕ) → waits_at_keeper (initial_state C) c ≡ 0
nobody-waits C c = rw (unmarked-core C c) (by_test (all_arrived (initial_state C).keeper)) where
  by_test : (t : Bool) → bit (not t && false) ≡ 0
  by_test true = refl
  by_test false = refl

nobody-alive : (C : Setting) (c : ℕ) → bit (is_alive (slice_get (initial_state C).nodes c)) ≡ 0
nobody-alive C c = by_node (slice_get (initial_state C).nodes c) refl where
  by_node : (o : Option NodeParts) → slice_get (initial_state C).nodes c ≡ o → bit (is_alive o) ≡ 0
  by_node None is = refl
  by_node (Some n) is = rw ((opened-node C c n is).is) refl

none-declared : (phases : List Phase) (core : ℕ) → (length phases == 0) ≡ true → is_running (option_map started (option_and_then (λ (p : Phase). find (is_for core) p.tasks) (slice_get phases 0))) ≡ false
none-declared [] core none = refl
none-declared (p ∷ ps) core none = absurd (grind (arith, nat_tests, none))

first-asleep : (C : Setting) (c : ℕ) → (initial_node C c).halted ≡ true → HasArrived (initial_node C c)
first-asleep C c none = record { settled = refl; waiting = refl; over = none-declared C.program.phases c none }

not-whole : (C : Setting) (c : ℕ) → c < C.shape.cores → all_arrived (initial_state C).keeper ≡ false
not-whole C c below =
    rw (opened-keeper C) (missing-one (initial_barrier C.shape.cores (length C.program.phases)) c (unmarked C.shape.cores c below))

phases-row : (C : Setting) (c : ℕ) → PhaseRow (phase_counts (initial_state C) c)
phases-row C c = omega (arith, nobody-alive C c, nobody-waits C c, opened-flight C (is_arrival_of c), opened-flight C (is_go_to c), opened-flight C (is_halt_to c))

phases-open : (C : Setting) → PhasesGood (initial_state C)
phases-open C =
    record {
      row = phases-row C;
      phase = λ c n found awake. omega (arith, ap (λ (x : NodeParts). x.phase) (opened-node C c n found).is, opened-flight C (is_go_to c), phase-first);
      astray = opened-flight C (is_astray (initial_state C).keeper.phase);
      arrived = λ c n found has. let never = ap (λ (x : NodeParts). x.arrived) (opened-node C c n found).is in absurd (cc);
      asleep = λ c n found has.
          let is = (opened-node C c n found).is in
          subst HasArrived (sym is) (first-asleep C c (sym (ap (λ (x : NodeParts). x.halted) is) ∙ has));
      truly = opened-flight C (is_lie (initial_state C).nodes);
      bad = λ is. let never = ap (λ k. k.bad) (opened-keeper C) in absurd (cc);
      good = λ is c. rw (unmarked-core C c) refl;
      over = λ all c. omega (arith, opened-flight C (is_arrival_of c), opened-flight C (is_go_to c));
      halting = λ c some. absurd (omega (arith, some, opened-flight C (is_halt_to c)));
      whole = λ all c n found. let never = not-whole C c (opened-node C c n found).below in absurd (cc);
      finished = λ c n t found has by. absurd (unfinished c n t found has by);
      unlocked = λ c n found some. absurd (omega (arith, some, opened-flight C (is_go_to c)));
      within = by_phases (nat_lt 0 (length C.program.phases)) refl;
    }
  where
    phase-first : (initial_state C).keeper.phase ≡ 0
    phase-first = ap (λ k. k.phase) (opened-keeper C)

    never-finished : (o : Option TaskDecl) (t : TaskState) → option_map started o ≡ Some t → t.end ≡ Some Finished → ⊥
    never-finished None t has by = cc
    never-finished (Some d) t has by =
        let same : started d ≡ t = cc in
        let going : None ≡ t.end = ap (λ (x : TaskState). x.end) same in
        cc

    unfinished : (c : ℕ) (n : NodeParts) (t : TaskState) → slice_get (initial_state C).nodes c ≡ Some n → n.task ≡ Some t → t.end ≡ Some Finished → ⊥
    unfinished c n t found has by =
        never-finished (declared C.program 0 c) t (sym (ap (λ (x : NodeParts). x.task) (opened-node C c n found).is) ∙ has) by

    by_phases : (t : Bool) → nat_lt 0 (length C.program.phases) ≡ t
        → (initial_state C).keeper.phase < length (initial_state C).setting.program.phases ⊎ (length (initial_state C).setting.program.phases ≡ 0)
    by_phases true e = rw (opened-setting C) (inl (grind (arith, nat_tests, e, phase-first)))
    by_phases false e = rw (opened-setting C) (inr (grind (arith, nat_tests, e)))

-- ---- reads

nobody-reads : (C : Setting) (w c : ℕ) → reading_in w (slice_get (initial_state C).nodes c) ≡ 0
nobody-reads C w c = by_node (slice_get (initial_state C).nodes c) refl where
  by_node : (o : Option NodeParts) → slice_get (initial_state C).nodes c ≡ o → reading_in w o ≡ 0
  by_node None is = refl
  by_node (Some n) is = rw ((opened-node C c n is).is) refl

reads-row : (C : Setting) (w c : ℕ) → ReadRow (read_counts (initial_state C) w c)
reads-row C w c = omega (arith, nobody-reads C w c, opened-flight C (is_read_req_of w c), opened-flight C (is_read_fwd_of w c), opened-flight C (is_data_reply_to w c))

reads-open : (C : Setting) → ReadsGood (initial_state C)
reads-open C =
    record {
      row = reads-row C;
      quiet = λ w c d. omega (arith, nobody-reads C w c, ap pending_bit (opened-entry C d w));
      pair = λ w d e some. absurd (omega (arith, some, opened-flight C (is_read_fwd_to w d)));
      reading = λ c n word found waits. let never = ap (λ (x : NodeParts). x.waiting) (opened-node C c n found).is in absurd (cc);
      filled = λ c n word found waits. let never = ap (λ (x : NodeParts). x.waiting) (opened-node C c n found).is in absurd (cc);
    }

-- ---- values and copies

first-value : (memory : List ℕ) (w value : ℕ) → first_word (slice_get memory w) ≡ Some (Home value) → value ≡ slice_index memory w
first-value [] w value is = absurd (cc)
first-value (x ∷ xs) zero value is = cc
first-value (x ∷ xs) (suc w) value is = first-value xs w value is

first-beyond : (memory : List ℕ) (w : ℕ) → first_word (slice_get memory w) ≡ None → slice_index memory w ≡ 0
first-beyond [] w is = refl
first-beyond (x ∷ xs) zero is = absurd (cc)
first-beyond (x ∷ xs) (suc w) is = first-beyond xs w is

first-home : (o : Option ℕ) (core : CoreId) → first_word o ≡ Some (Reg core) → ⊥
first-home None core is = cc
first-home (Some value) core is = cc

values-open : (C : Setting) → IsShaped C → ValuesGood (initial_state C) (λ w. slice_index C.program.memory w)
values-open C context =
    record {
      beyond = λ w is. first-beyond C.program.memory w (sym (opened-home C w context) ∙ is);
      pending = λ c w value is. let none = opened-entry C c w in absurd (cc);
      home = λ w value all is. first-value C.program.memory w value (sym (opened-home C w context) ∙ is);
      owner = λ w value core all is has. absurd (first-home (slice_get C.program.memory w) core (sym (opened-home C w context) ∙ is));
      replied = opened-flight C (is_false_data_reply (λ w. slice_index C.program.memory w));
      forwarded = λ d w value some has. absurd (omega (arith, some, opened-flight C (is_read_fwd_to w d)));
    }

copies-open : (C : Setting) → CopiesGood (initial_state C) (λ w. slice_index C.program.memory w)
copies-open C =
    record {
      marked = λ c w value is. let none = opened-entry C c w in absurd (cc);
      fresh = λ c w value marked is. let none = opened-entry C c w in absurd (cc);
    }

-- no node is ahead of the keeper
behind-open : (C : Setting) (c : ℕ) (n : NodeParts) → slice_get (initial_state C).nodes c ≡ Some n → n.phase ≤ (initial_state C).keeper.phase
behind-open C c n found =
    let new = opened-node C c n found in
    omega (arith, ap (λ (x : NodeParts). x.phase) new.is, ap (λ (k : Barrier). k.phase) (opened-keeper C))

-- ---- all of it

pub opened-invariant : (C : Setting) → IsWellFormed C → Invariant (initial_state C) (λ w. slice_index C.program.memory w)
opened-invariant C well =
    record {
      machine = opened-machine C well.context well.program well.checked;
      addressed = opened-flight C (is_lost (initial_state C).setting.shape.cores (initial_state C).setting.shape.banks);
      words = words-open C well.context;
      locks = locks-open C well.context;
      phases = phases-open C;
      reads = reads-open C;
      values = values-open C well.context;
      copies = copies-open C;
      behind = behind-open C;
      ended = λ c n found halted. inr (
          ap (λ (x : Setting). length x.program.phases) (opened-setting C) ∙ eqb-true (length C.program.phases) 0 (sym (ap (λ (x : NodeParts). x.halted) (opened-node C c n found).is) ∙ halted)
          );
    }
