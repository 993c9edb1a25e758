-- A task alone that finishes holds no lock then.
use Rattle.std.proofs.Common.{◌≡◌, ℕ, zero, suc, ◌&&◌, Bool, true, false, if◌then◌else◌, List, [], Option, Some, None, is_none, refl, sym, ap, ◌∙◌, subst}
use Rattle.std.proofs.lemmas.Bool.{false≢true, and_parts}
use Rattle.std.proofs.lemmas.Option.{none-some}
use Rattle.rv_core.specs.declared.task.End.{End}
use Rattle.rv_core.specs.declared.task.End as cause
use Rattle.rv_core.specs.declared.task.TaskState.{TaskState}
use Rattle.rv_core.specs.declared.need.Need.{Need}
use Rattle.rv_core.specs.declared.need.Need as need
use Rattle.rv_core.specs.Need.{need_of}
use Rattle.rv_core.specs.Step.{advanced}
use Rattle.rv_core.specs.Kinds.{IsAdvance}
use Rattle.rv_core.proofs.Completions.{finished-holds_none}
use Rattle.flat_machine.specs.Step.{Started, wish, wish_unless}
use Rattle.flat_machine.proofs.Rest.{advanced-more, loaded-more}
use Rattle.common_outcomes.specs.Alone.{Setup, Alone, is_settled_next, alone_by, alone_step, alone_steps, start_alone, alone, seen}

-- a task that has finished holds no lock
abbrev EndsFree : TaskState → Type 0
EndsFree t = t.end ≡ Some cause.TheVariants.Finished → t.held ≡ 0

module _ (S : Setup) where
  open-free : (t : TaskState) → t.end ≡ None → EndsFree t
  open-free t runs e = absurd (none-some cause.TheVariants.Finished (sym runs ∙ e))

  need-free : (a : Alone) → a.state.end ≡ None → (n : Need) → need_of S.program S.decl S.fuel a.state ≡ n → EndsFree (alone_by S a n).state
  need-free a runs n is = by_need n is where
    r : Started
    r = record { phase = record { 0 = 0 }; decl = S.decl; state = a.state; loads = [] }

    wants : (n : Need) → need_of S.program S.decl S.fuel a.state ≡ n → wish S.program S.fuel r ≡ Some n
    wants n e = ap (wish_unless S.program S.fuel r) runs ∙ ap Some e

    goes : (n : Need) → IsAdvance n → need_of S.program S.decl S.fuel a.state ≡ n → EndsFree (advanced S.program a.state)
    goes n k e = open-free (advanced S.program a.state) ((advanced-more S.program S.fuel r n k (wants n e)).kept ∙ runs)

    by_need : (n : Need) → need_of S.program S.decl S.fuel a.state ≡ n → EndsFree (alone_by S a n).state
    by_need need.TheVariants.Local e = goes need.TheVariants.Local tt e
    by_need (need.TheVariants.Load word) e =
        open-free (alone_by S a (need.TheVariants.Load word)).state ((loaded-more S.program S.fuel r (seen S a.cells word.0).number (need.TheVariants.Load word) tt (wants (need.TheVariants.Load word) e)).kept ∙ runs)
    by_need (need.TheVariants.Store word whole) e = goes (need.TheVariants.Store word whole) tt e
    by_need (need.TheVariants.Acquire lock) e = goes (need.TheVariants.Acquire lock) tt e
    by_need (need.TheVariants.Release lock) e = goes (need.TheVariants.Release lock) tt e
    by_need (need.TheVariants.End cause.TheVariants.Finished) e = λ over. finished-holds_none S.program S.decl S.fuel a.state e
    by_need (need.TheVariants.End cause.TheVariants.Fuel) e = λ over. absurd (cc)
    by_need (need.TheVariants.End (cause.TheVariants.Trap kind pc value)) e = λ over. absurd (cc)

  step-free : (a : Alone) → EndsFree a.state → EndsFree (alone_step S a).state
  step-free a free = by_test (is_none a.state.end && is_settled_next S a) refl where
    none-there : (o : Option End) → is_none o ≡ true → o ≡ None
    none-there None e = refl
    none-there (Some by) e = absurd (false≢true e)

    by_test : (b : Bool) → (is_none a.state.end && is_settled_next S a) ≡ b → EndsFree (if b then alone_by S a (need_of S.program S.decl S.fuel a.state) else a).state
    by_test true e = need-free a (none-there a.state.end (and_parts (is_none a.state.end) (is_settled_next S a) e).0) (need_of S.program S.decl S.fuel a.state) refl
    by_test false e = free

  steps-free : (n : ℕ) (a : Alone) → EndsFree a.state → EndsFree (alone_steps S n a).state
  steps-free zero a free = free
  steps-free (suc n) a free = steps-free n (alone_step S a) (step-free a free)

  pub alone-free : (alone S).state.end ≡ Some cause.TheVariants.Finished → (alone S).state.held ≡ 0
  unfolding alone
  alone-free over = steps-free (suc S.fuel) (start_alone S) (open-free (start_alone S).state refl) over
