-- The end of a task keeps that the task of the run is where the task alone is.
use Rattle.std.proofs.Common.{◌≡◌, ℕ, zero, suc, List, [], ◌∷◌, length, map, Some, None, refl, sym, ap, ◌∙◌, subst}
use Rattle.std.proofs.lemmas.Option.{none-some}
use Rattle.rv_core.specs.declared.task.TaskState.{TaskState}
use Rattle.rv_core.specs.declared.task.End.{End}
use Rattle.rv_core.specs.declared.task.End as cause
use Rattle.rv_core.specs.Task.{stopped}
use Rattle.flat_machine.specs.Step.{Started, in_state}
use Rattle.common_outcomes.specs.declared.value.Cell.{Cell}
use Rattle.common_outcomes.specs.Alone.{Setup, Alone, cell_at, closed}
use Rattle.common_outcomes.specs.Agreeing.{without_registers, AreRegisters, IsOfSection, FitsAlone}
use Rattle.common_outcomes.proofs.Fitting.{EachKind}

-- what an end changes and keeps
record IsEnded (by : End) (t : TaskState) : Type 0 where
  ended : (stopped by t).end ≡ Some by
  regs : (stopped by t).regs ≡ t.regs
  held : (stopped by t).held ≡ t.held

ends-at : (by : End) (t : TaskState) → IsEnded by t
ends-at cause.TheVariants.Finished t = record { ended = refl; regs = refl; held = refl }
ends-at cause.TheVariants.Fuel t = record { ended = refl; regs = refl; held = refl }
ends-at (cause.TheVariants.Trap kind pc value) t = record { ended = refl; regs = refl; held = refl }

bare-stopped : (by : End) (t : TaskState) → without_registers (stopped by t) ≡ stopped by (without_registers t)
bare-stopped cause.TheVariants.Finished t = refl
bare-stopped cause.TheVariants.Fuel t = refl
bare-stopped (cause.TheVariants.Trap kind pc value) t = refl

closed-at : (cells : List Cell) (w : ℕ) → (cell_at (map closed cells) w).stored ≡ None
closed-at [] w = refl
closed-at (c ∷ cells) zero = refl
closed-at (c ∷ cells) (suc w) = closed-at cells w

closed-length : (cells : List Cell) → length (map closed cells) ≡ length cells
closed-length [] = refl
closed-length (c ∷ cells) = ap suc (closed-length cells)

pub end-fits : (S : Setup) (base : ℕ → ℕ) (a : Alone) (r : Started) (m : List ℕ) (by : End) → FitsAlone S base a r m
    → FitsAlone S base (record a { state = stopped by a.state; cells = map closed a.cells }) (in_state r (stopped by r.state)) m
end-fits S base a r m by h =
    let e = ends-at by a.state in
    let f = ends-at by r.state in
    record {
      decl = h.decl;
      state = bare-stopped by r.state ∙ ap (stopped by) h.state ∙ sym (bare-stopped by a.state);
      registers = subst (λ (x : List ℕ). AreRegisters a.kinds x base (stopped by r.state).regs) (sym e.regs) (subst (AreRegisters a.kinds a.state.regs base) (sym f.regs) h.registers);
      taken = subst (λ (x : ℕ). EachKind (IsOfSection S x) a.kinds) (sym e.held) h.taken;
      words = closed-length a.cells ∙ h.words;
      base_small = h.base_small;
      stored = λ w v is. absurd (none-some v (sym (closed-at a.cells w) ∙ is));
      kept = λ w runs is shared inside. absurd (none-some by (sym runs ∙ e.ended));
      first = λ w runs is shared. absurd (none-some by (sym runs ∙ e.ended));
    }
