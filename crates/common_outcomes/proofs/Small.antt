-- The registers and words of a run are numbers of 32 bits.
use Rattle.std.proofs.Common.{◌≡◌, ℕ, zero, suc, ◌%◌, ◌<◌, ◌^◌, List, [], ◌∷◌, ◌++◌, slice_index, slice_get, Option, Some, None, refl, sym, subst}
use Rattle.std.specs.List.{All, IsAmong}
use Rattle.std.proofs.lemmas.List.Elements.{All-head, All-tail, All-cons, All-nil}
use Rattle.std.proofs.lemmas.Option.{none-some, same_Some}
use Rattle.region_table.specs.Program.{ProgramParts, tasks_of}
use Rattle.region_table.specs.Numbers.{HasWords, IsOfWords}
use Rattle.region_table.specs.declared.declared.TaskDecl.{TaskDecl}
use Rattle.region_table.specs.declared.declared.Phase.{Phase}
use Rattle.rv_isa.specs.declared.instr.Instr.{Instr}
use Rattle.rv_isa.specs.declared.instr.Instr.TheVariants.{Load}
use Rattle.rv_core.specs.declared.task.End.{End}
use Rattle.rv_core.specs.declared.task.End as cause
use Rattle.rv_core.specs.declared.task.TaskState.{TaskState}
use Rattle.rv_core.specs.declared.need.Need.{Need}
use Rattle.rv_core.specs.declared.need.Need as need
use Rattle.rv_core.specs.Address.{extended}
use Rattle.rv_core.specs.Need.{address_of}
use Rattle.rv_core.specs.Step.{instr_at, after_fetch, after_load, advanced, loaded_of, merged_of}
use Rattle.rv_core.specs.Task.{stopped}
use Rattle.flat_machine.specs.Step.{Started, At, wish, step_by, flat_step}
use Rattle.flat_machine.proofs.KeptLaws.{StepsKeep}
use Rattle.effect_prover.proofs.FollowWords.{AreBelow, set-below, words-below, extended-has}
use Rattle.common_outcomes.specs.declared.value.Kind.{Kind}
use Rattle.common_outcomes.specs.declared.value.Kind.TheVariants.{Known}
use Rattle.common_outcomes.specs.Agreeing.{AreRegisters}
use Rattle.common_outcomes.proofs.Deciding.{read-small}
use Rattle.common_outcomes.proofs.Stepping.{written, loadable-small, after-registers}
use Rattle.common_outcomes.proofs.Fitting.{imm-at}
use Rattle.common_outcomes.proofs.Accessing.{merged-below}
use Rattle.common_outcomes.proofs.Starting.{start-registers}

-- the registers of a run are 32 numbers of 32 bits
pub record IsSmall (t : TaskState) : Type 0 where
  pub kinds : List Kind
  pub registers : AreRegisters kinds t.regs (λ (w : ℕ). 0) t.regs

pub advanced-small : (P : ProgramParts) (t : TaskState) → IsSmall t → IsSmall (advanced P t)
unfolding advanced
advanced-small P t h = by_instr (instr_at P t) refl
  where
    by_instr : (o : Option Instr) → instr_at P t ≡ o → IsSmall (after_fetch t o)
    by_instr None e = h
    by_instr (Some i) e = record { kinds = _; registers = after-registers h.kinds (λ (w : ℕ). 0) t t i refl h.registers (imm-at P t i e) }

loaded-small : (P : ProgramParts) (value : ℕ) (t : TaskState) → IsSmall t → value < 2 ^ 32 → IsSmall (loaded_of P value t)
unfolding loaded_of
loaded-small P value t h low = by_instr (instr_at P t)
  where
    by_instr : (o : Option Instr) → IsSmall (after_load t value o)
    by_instr (Some (Load width rd base offset)) =
        let lane = address_of t base offset % 4 in
        record {
          kinds = _;
          registers = written h.kinds t.regs t.regs (λ (w : ℕ). 0) rd Known (extended width value lane) (extended width value lane) h.registers refl (loadable-small width _ (extended-has width value lane low));
        }
    by_instr _ = h

merged-small : (P : ProgramParts) (old : ℕ) (t : TaskState) → IsSmall t → old < 2 ^ 32 → merged_of P old t < 2 ^ 32
unfolding merged_of
merged-small P old t h low = merged-below t old (instr_at P t) low (λ q. read-small h.kinds t.regs t.regs (λ (w : ℕ). 0) q h.registers)

stopped-small : (by : End) (t : TaskState) → IsSmall t → IsSmall (stopped by t)
stopped-small cause.TheVariants.Finished t h = record { kinds = h.kinds; registers = h.registers }
stopped-small cause.TheVariants.Fuel t h = record { kinds = h.kinds; registers = h.registers }
stopped-small (cause.TheVariants.Trap kind pc value) t h = record { kinds = h.kinds; registers = h.registers }

step-small : (P : ProgramParts) (fuel : ℕ) (s : At) → IsSmall s.task.state → AreBelow (2 ^ 32) s.memory → IsSmall (flat_step P fuel s).task.state × AreBelow (2 ^ 32) (flat_step P fuel s).memory
step-small P fuel s h m = by_wish (wish P fuel s.task)
  where
    by_wish : (o : Option Need) → IsSmall (step_by P s o).task.state × AreBelow (2 ^ 32) (step_by P s o).memory
    by_wish None = (h, m)
    by_wish (Some need.TheVariants.Local) = (advanced-small P s.task.state h, m)
    by_wish (Some (need.TheVariants.Load word)) = (loaded-small P (slice_index s.memory word.0) s.task.state h (m word.0), m)
    by_wish (Some (need.TheVariants.Store word whole)) = (
      advanced-small P s.task.state h,
      set-below (2 ^ 32) s.memory word.0 (merged_of P (slice_index s.memory word.0) s.task.state) m (merged-small P (slice_index s.memory word.0) s.task.state h (m word.0)),
    )
    by_wish (Some (need.TheVariants.Acquire lock)) = (h, m)
    by_wish (Some (need.TheVariants.Release lock)) = (advanced-small P s.task.state h, m)
    by_wish (Some (need.TheVariants.End by)) = (stopped-small by s.task.state h, m)

-- ---- the arguments of tasks

all-front : {X : Type 0} (Q : X → Type 0) (xs ys : List X) → All Q (xs ++ ys) → All Q xs
all-front Q [] ys h = All-nil Q
all-front Q (x ∷ xs) ys h = All-cons Q x xs (All-head Q x (xs ++ ys) h) (all-front Q xs ys (All-tail Q x (xs ++ ys) h))

all-back : {X : Type 0} (Q : X → Type 0) (xs ys : List X) → All Q (xs ++ ys) → All Q ys
all-back Q [] ys h = h
all-back Q (x ∷ xs) ys h = all-back Q xs ys (All-tail Q x (xs ++ ys) h)

phase-words : (phases : List Phase) (k : ℕ) (p : Phase) → All IsOfWords (tasks_of phases) → slice_get phases k ≡ Some p → All IsOfWords p.tasks
phase-words [] k p h there = absurd (none-some p there)
phase-words (q ∷ phases) zero p h there = subst (λ (x : Phase). All IsOfWords x.tasks) (same_Some q p there) (all-front IsOfWords q.tasks (tasks_of phases) h)
phase-words (q ∷ phases) (suc k) p h there = phase-words phases k p (all-back IsOfWords q.tasks (tasks_of phases) h) there

pub arg-small : (P : ProgramParts) (k : ℕ) (p : Phase) (d : TaskDecl) → HasWords P → slice_get P.phases k ≡ Some p → IsAmong p.tasks d → d.arg < 2 ^ 32
arg-small P k p d words there among =
    let each = phase-words P.phases k p words.tasks there in
    (subst IsOfWords (sym among.1.1) (each among.0 d among.1.0)).arg

-- ---- runs

pub small-keeps : (P : ProgramParts) (fuel : ℕ) → HasWords P → StepsKeep P fuel (λ (r : Started). IsSmall r.state) (AreBelow (2 ^ 32))
small-keeps P fuel words =
    record {
      memory = words-below P.memory words.memory;
      starts = λ k p d there among. record { kinds = _; registers = start-registers d (λ (w : ℕ). 0) (arg-small P k p d words there among) };
      steps = step-small P fuel;
      acquires = λ r waits h. advanced-small P r.state h;
    }
