-- One step of a task in a run, and of the task alone.
use Rattle.std.proofs.Common.{◌≡◌, ℕ, ◌<◌, Bool, true, ◌&&◌, List, slice_index, if◌then◌else◌, Option, Some, None, is_none, refl, sym, ap, ◌∙◌, subst}
use Rattle.region_table.specs.Program.{ProgramParts}
use Rattle.rv_core.specs.declared.task.End.{End}
use Rattle.rv_core.specs.declared.need.Need.{Need}
use Rattle.rv_core.specs.declared.need.Need as need
use Rattle.rv_core.specs.Kinds.{Allowed}
use Rattle.rv_core.specs.Need.{need_of}
use Rattle.rv_core.proofs.Needs.{need-allowed}
use Rattle.flat_machine.specs.Step.{Started, wish, wish_unless, step_by, flat_step}
use Rattle.flat_machine.specs.Laws.{at_memory}
use Rattle.flat_machine.proofs.Rights.{store-loads}
use Rattle.common_outcomes.specs.Alone.{Setup, Alone, is_settled_next, alone_by, alone_step}
use Rattle.common_outcomes.specs.Agreeing.{IsPhaseTask, IsNoAcquire, FitsAlone}
use Rattle.common_outcomes.proofs.Beside.{shared-inside}
use Rattle.common_outcomes.proofs.Fitting.{next-need, local-fits}
use Rattle.common_outcomes.proofs.Accessing.{load-fits, store-fits}
use Rattle.common_outcomes.proofs.Leaving.{release-fits}
use Rattle.common_outcomes.proofs.Ending.{end-fits}

-- a step of the task alone, where its control is settled
pub alone-goes : (S : Setup) (a : Alone) → a.state.end ≡ None → is_settled_next S a ≡ true → alone_step S a ≡ alone_by S a (need_of S.program S.decl S.fuel a.state)
alone-goes S a runs s = ap (λ (b : Bool). if b then alone_by S a (need_of S.program S.decl S.fuel a.state) else a) test
  where
    test : (is_none a.state.end && is_settled_next S a) ≡ true
    test = ap (λ (o : Option End). is_none o && is_settled_next S a) runs ∙ s

-- the run's wish is the need of the task alone
pub wish-same : (S : Setup) (base : ℕ → ℕ) (a : Alone) (r : Started) (m : List ℕ) → FitsAlone S base a r m → a.state.end ≡ None → is_settled_next S a ≡ true
    → wish S.program S.fuel r ≡ Some (need_of S.program S.decl S.fuel a.state)
wish-same S base a r m h runs s =
    ap (wish_unless S.program S.fuel r) (ap (λ t. t.end) h.state ∙ runs)
    ∙ ap (λ d. Some (need_of S.program d S.fuel r.state)) h.decl
    ∙ ap Some (next-need S.program S.decl S.fuel a.kinds base a.state r.state h.state h.registers s)

-- one instruction that is no acquire, in the run and alone, keeps that the run's task is where the task alone is
pub step-fits : (S : Setup) (base : ℕ → ℕ) (a : Alone) (r : Started) (m : List ℕ) → IsPhaseTask S m → FitsAlone S base a r m → a.state.end ≡ None → is_settled_next S a ≡ true
    → IsNoAcquire (need_of S.program S.decl S.fuel a.state)
    → FitsAlone S base (alone_step S a) (flat_step S.program S.fuel (at_memory r m)).task (flat_step S.program S.fuel (at_memory r m)).memory
step-fits S base a r m p h runs s plain =
    subst (λ (x : Alone). FitsAlone S base x (flat_step P S.fuel (at_memory r m)).task (flat_step P S.fuel (at_memory r m)).memory) (sym (alone-goes S a runs s))
    (subst (λ (o : Option Need). FitsAlone S base (alone_by S a (need_of P S.decl S.fuel a.state)) (step_by P (at_memory r m) o).task (step_by P (at_memory r m) o).memory) (sym (wish-same S base a r m h runs s))
    (by_need (need_of P S.decl S.fuel a.state) refl plain))
  where
    P : ProgramParts
    P = S.program

    allowed : (n : Need) → need_of P S.decl S.fuel a.state ≡ n → Allowed P S.decl a.state n
    allowed n e = subst (Allowed P S.decl a.state) e (need-allowed P S.decl S.fuel a.state)

    by_need : (n : Need) → need_of P S.decl S.fuel a.state ≡ n → IsNoAcquire n → FitsAlone S base (alone_by S a n) (step_by P (at_memory r m) (Some n)).task (step_by P (at_memory r m) (Some n)).memory
    by_need need.TheVariants.Local e plain = local-fits S base a r m h s e
    by_need (need.TheVariants.Load word) e plain =
        load-fits S base a r m word (record { word = word; value = slice_index m word.0 }) h p.first runs s e
        (λ shared. shared-inside S.phase S.decl a.state.held word.0 p.checked p.among shared (allowed (need.TheVariants.Load word) e).1)
    by_need (need.TheVariants.Store word whole) e plain =
        let k = allowed (need.TheVariants.Store word whole) e in
        store-fits S base a r m word whole h p.first runs s e
        (λ shared. shared-inside S.phase S.decl a.state.held word.0 p.checked p.among shared (store-loads S.decl a.state.held word.0 k.1))
        (subst (λ (x : ℕ). word.0 < x) (sym p.words) k.0)
    by_need (need.TheVariants.Acquire lock) e plain = absurd plain
    by_need (need.TheVariants.Release lock) e plain = release-fits S base a r m lock p.checked p.among h s e
    by_need (need.TheVariants.End by) e plain = end-fits S base a r m by h
