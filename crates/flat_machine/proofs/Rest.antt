-- A segment comes to rest: its task has ended or waits.
use Rattle.std.proofs.Common.{◌≡◌, ℕ, zero, suc, ◌+◌, ◌-◌, ◌^◌, ◌≤◌, ◌==◌, Bool, true, false, cond, ◌⊎◌, inl, inr, slice_index, Option, Some, None, refl, sym, ◌∙◌, subst, bit_or, bit_xor, arith}
use Rattle.std.proofs.lemmas.Option.{none-some}
use Rattle.region_table.specs.Program.{ProgramParts}
use Rattle.rv_isa.specs.declared.instr.Instr.{Instr}
use Rattle.rv_isa.specs.declared.instr.Instr as instr
use Rattle.rv_core.specs.declared.task.TaskState.{TaskState}
use Rattle.rv_core.specs.declared.task.End.{End}
use Rattle.rv_core.specs.declared.task.End as cause
use Rattle.rv_core.specs.declared.need.Need.{Need}
use Rattle.rv_core.specs.declared.need.Need as need
use Rattle.rv_core.specs.Kinds.{IsLoad, IsAdvance}
use Rattle.rv_core.specs.Step.{after_fetch, after_load, after_call, with_locks, advanced, loaded_of, instr_at}
use Rattle.rv_core.specs.Task.{stopped}
use Rattle.rv_core.proofs.Needs.{fuelled, advance-tells, load-tells}
use Rattle.flat_machine.specs.Step.{Started, At, wish, wish_unless, step_by, flat_step, flat_steps, segment, room_by, room, IsWithin, IsUnmoved}
use Rattle.flat_machine.specs.Laws.{EndsSegment}
use Rattle.flat_machine.proofs.StepLemmas.{steps-still}
use Rattle.flat_machine.proofs.Rights.{wish-need}

-- ---- an instruction doesn't end its task

call-end : (t : TaskState) (number lock : ℕ) → (after_call t number lock).end ≡ t.end
call-end t number lock = by_number (number == 1)
  where
    by_number : (b : Bool) → (cond b (with_locks t (bit_or t.held (2 ^ lock))) (with_locks t (bit_xor t.held (2 ^ lock)))).end ≡ t.end
    by_number true = refl
    by_number false = refl

after-end : (t : TaskState) (i : Option Instr) → (after_fetch t i).end ≡ t.end
after-end t None = refl
after-end t (Some instr.TheVariants.Ecall) = call-end t (slice_index t.regs 17) (slice_index t.regs 10)
after-end t (Some (instr.TheVariants.Lui rd imm)) = refl
after-end t (Some (instr.TheVariants.Auipc rd imm)) = refl
after-end t (Some (instr.TheVariants.Jal rd offset)) = refl
after-end t (Some (instr.TheVariants.Jalr rd base offset)) = refl
after-end t (Some (instr.TheVariants.Branch test a b offset)) = refl
after-end t (Some (instr.TheVariants.Load width rd base offset)) = refl
after-end t (Some (instr.TheVariants.Store width src base offset)) = refl
after-end t (Some (instr.TheVariants.OpImm op rd a imm)) = refl
after-end t (Some (instr.TheVariants.Op op rd a b)) = refl
after-end t (Some instr.TheVariants.Fence) = refl
after-end t (Some instr.TheVariants.Ebreak) = refl

load-end : (t : TaskState) (value : ℕ) (i : Option Instr) → (after_load t value i).end ≡ t.end
load-end t value None = refl
load-end t value (Some instr.TheVariants.Ecall) = refl
load-end t value (Some (instr.TheVariants.Lui rd imm)) = refl
load-end t value (Some (instr.TheVariants.Auipc rd imm)) = refl
load-end t value (Some (instr.TheVariants.Jal rd offset)) = refl
load-end t value (Some (instr.TheVariants.Jalr rd base offset)) = refl
load-end t value (Some (instr.TheVariants.Branch test a b offset)) = refl
load-end t value (Some (instr.TheVariants.Load width rd base offset)) = refl
load-end t value (Some (instr.TheVariants.Store width src base offset)) = refl
load-end t value (Some (instr.TheVariants.OpImm op rd a imm)) = refl
load-end t value (Some (instr.TheVariants.Op op rd a b)) = refl
load-end t value (Some instr.TheVariants.Fence) = refl
load-end t value (Some instr.TheVariants.Ebreak) = refl

-- ---- one instruction uses up a part of the room

-- the second state is the first one instruction later, and there was fuel for it
pub record IsOneMore (fuel : ℕ) (t u : TaskState) : Type 0 where
  pub retired : u.retired ≡ t.retired + 1
  pub kept : u.end ≡ t.end
  pub unspent : t.retired ≡ fuel → ⊥

pub advanced-more : (P : ProgramParts) (fuel : ℕ) (r : Started) (n : Need) → IsAdvance n → wish P fuel r ≡ Some n → IsOneMore fuel r.state (advanced P r.state)
unfolding advanced
advanced-more P fuel r n k e =
    let kind = subst IsAdvance (sym (wish-need P fuel r n e)) k in
    record {
      retired = (advance-tells P r.decl fuel r.state kind).retires;
      kept = after-end r.state (instr_at P r.state);
      unspent = (fuelled P r.decl fuel r.state IsAdvance (λ x. x) kind).0;
    }

pub loaded-more : (P : ProgramParts) (fuel : ℕ) (r : Started) (value : ℕ) (n : Need) → IsLoad n → wish P fuel r ≡ Some n → IsOneMore fuel r.state (loaded_of P value r.state)
unfolding loaded_of
loaded-more P fuel r value n k e =
    let kind = subst IsLoad (sym (wish-need P fuel r n e)) k in
    record {
      retired = (load-tells P r.decl fuel r.state value kind).retires;
      kept = load-end r.state value (instr_at P r.state);
      unspent = (fuelled P r.decl fuel r.state IsLoad (λ x. x) kind).0;
    }

pub wish-open : (P : ProgramParts) (fuel : ℕ) (r : Started) (n : Need) → wish P fuel r ≡ Some n → r.state.end ≡ None
wish-open P fuel r n e = by_end r.state.end refl e
  where
    by_end : (o : Option End) → r.state.end ≡ o → wish_unless P fuel r o ≡ Some n → r.state.end ≡ None
    by_end None is e = is
    by_end (Some by) is e = absurd (none-some n e)

-- the task goes on with less room than before
pub record IsLess (fuel : ℕ) (t u : TaskState) : Type 0 where
  pub room : room_by fuel u.retired u.end + 1 ≤ room_by fuel t.retired t.end
  pub within : u.end ≡ None → u.retired ≤ fuel

open-room : (fuel retired : ℕ) (o : Option End) → o ≡ None → room_by fuel retired o ≡ fuel + 1 - retired
open-room fuel retired None e = refl
open-room fuel retired (Some by) e = absurd (none-some by (sym e))

pub more-less : (fuel : ℕ) (t u : TaskState) → t.end ≡ None → t.retired ≤ fuel → IsOneMore fuel t u → IsLess fuel t u
more-less fuel t u opened within h =
    let before = open-room fuel t.retired t.end opened in
    let after = open-room fuel u.retired u.end (h.kept ∙ opened) in
    let apart = h.unspent in
    let one = h.retired in
    record { room = omega arith; within = λ e. omega arith }

stopped-room : (fuel : ℕ) (by : End) (t : TaskState) → room_by fuel (stopped by t).retired (stopped by t).end ≡ 0
stopped-room fuel cause.TheVariants.Finished t = refl
stopped-room fuel cause.TheVariants.Fuel t = refl
stopped-room fuel (cause.TheVariants.Trap kind pc value) t = refl

stopped-some : (by : End) (t : TaskState) → (stopped by t).end ≡ None → ⊥
stopped-some cause.TheVariants.Finished t e = none-some _ (sym e)
stopped-some cause.TheVariants.Fuel t e = none-some _ (sym e)
stopped-some (cause.TheVariants.Trap kind pc value) t e = none-some _ (sym e)

stopped-less : (fuel : ℕ) (by : End) (t : TaskState) → t.end ≡ None → t.retired ≤ fuel → IsLess fuel t (stopped by t)
stopped-less fuel by t opened within =
    let before = open-room fuel t.retired t.end opened in
    let after = stopped-room fuel by t in
    record { room = omega arith; within = λ e. absurd (stopped-some by t e) }

-- a task is at rest, or goes on with less room
pub step-less : (P : ProgramParts) (fuel : ℕ) (s : At) → IsWithin fuel s.task → EndsSegment (wish P fuel s.task) ⊎ IsLess fuel s.task.state (flat_step P fuel s).task.state
step-less P fuel s within = by_wish (wish P fuel s.task) refl
  where
    by_wish : (o : Option Need) → wish P fuel s.task ≡ o → EndsSegment o ⊎ IsLess fuel s.task.state (step_by P s o).task.state
    by_wish None e = inl tt
    by_wish (Some (need.TheVariants.Acquire lock)) e = inl tt
    by_wish (Some need.TheVariants.Local) e =
        let o = wish-open P fuel s.task need.TheVariants.Local e in
        inr (more-less fuel s.task.state (advanced P s.task.state) o (within o) (advanced-more P fuel s.task need.TheVariants.Local tt e))
    by_wish (Some (need.TheVariants.Load word)) e =
        let o = wish-open P fuel s.task (need.TheVariants.Load word) e in
        inr (more-less fuel s.task.state (loaded_of P (slice_index s.memory word.0) s.task.state) o (within o) (loaded-more P fuel s.task (slice_index s.memory word.0) (need.TheVariants.Load word) tt e))
    by_wish (Some (need.TheVariants.Store word whole)) e =
        let o = wish-open P fuel s.task (need.TheVariants.Store word whole) e in
        inr (more-less fuel s.task.state (advanced P s.task.state) o (within o) (advanced-more P fuel s.task (need.TheVariants.Store word whole) tt e))
    by_wish (Some (need.TheVariants.Release lock)) e =
        let o = wish-open P fuel s.task (need.TheVariants.Release lock) e in
        inr (more-less fuel s.task.state (advanced P s.task.state) o (within o) (advanced-more P fuel s.task (need.TheVariants.Release lock) tt e))
    by_wish (Some (need.TheVariants.End by)) e =
        let o = wish-open P fuel s.task (need.TheVariants.End by) e in
        inr (stopped-less fuel by s.task.state o (within o))

pub rest-still : (P : ProgramParts) (fuel : ℕ) (s : At) → EndsSegment (wish P fuel s.task) → IsUnmoved P fuel s
rest-still P fuel s rest = by_wish (wish P fuel s.task) rest
  where
    by_wish : (o : Option Need) → EndsSegment o → step_by P s o ≡ s
    by_wish None rest = refl
    by_wish (Some (need.TheVariants.Acquire lock)) rest = refl
    by_wish (Some need.TheVariants.Local) rest = absurd rest
    by_wish (Some (need.TheVariants.Load word)) rest = absurd rest
    by_wish (Some (need.TheVariants.Store word whole)) rest = absurd rest
    by_wish (Some (need.TheVariants.Release lock)) rest = absurd rest
    by_wish (Some (need.TheVariants.End by)) rest = absurd rest

-- ---- a segment

stays-at-rest : (P : ProgramParts) (fuel n : ℕ) (s : At) → EndsSegment (wish P fuel s.task) → EndsSegment (wish P fuel (flat_steps P fuel n s).task)
stays-at-rest P fuel n s rest = subst (λ (x : At). EndsSegment (wish P fuel x.task)) (sym (steps-still P fuel n s (rest-still P fuel s rest))) rest

steps-rest : (P : ProgramParts) (fuel n : ℕ) (s : At) → IsWithin fuel s.task → room fuel s.task ≤ n → EndsSegment (wish P fuel (flat_steps P fuel n s).task)
steps-rest P fuel zero s within few = by_step (step-less P fuel s within)
  where
    by_step : EndsSegment (wish P fuel s.task) ⊎ IsLess fuel s.task.state (flat_step P fuel s).task.state → EndsSegment (wish P fuel s.task)
    by_step (inl rest) = rest
    by_step (inr less) = let h = less.room in absurd (omega arith)
steps-rest P fuel (suc n) s within few =
    by_step (λ (within' : IsWithin fuel (flat_step P fuel s).task) (few' : room fuel (flat_step P fuel s).task ≤ n). steps-rest P fuel n (flat_step P fuel s) within' few') (step-less P fuel s within)
  where
    by_step : (IsWithin fuel (flat_step P fuel s).task → room fuel (flat_step P fuel s).task ≤ n → EndsSegment (wish P fuel (flat_steps P fuel n (flat_step P fuel s)).task))
        → EndsSegment (wish P fuel s.task) ⊎ IsLess fuel s.task.state (flat_step P fuel s).task.state → EndsSegment (wish P fuel (flat_steps P fuel n (flat_step P fuel s)).task)
    by_step later (inl rest) = stays-at-rest P fuel (suc n) s rest
    by_step later (inr less) = let h = less.room in later less.within (omega arith)

room-most : (fuel retired : ℕ) (o : Option End) → room_by fuel retired o ≤ suc fuel
room-most fuel retired None = omega arith
room-most fuel retired (Some by) = omega arith

pub segment-rest : (P : ProgramParts) (fuel : ℕ) (s : At) → IsWithin fuel s.task → EndsSegment (wish P fuel (segment P fuel s).task)
unfolding segment
segment-rest P fuel s within = steps-rest P fuel (suc fuel) s within (room-most fuel s.task.state.retired s.task.state.end)

steps-last : (P : ProgramParts) (fuel n : ℕ) (s : At) → flat_steps P fuel n (flat_step P fuel s) ≡ flat_step P fuel (flat_steps P fuel n s)
steps-last P fuel zero s = refl
steps-last P fuel (suc n) s = steps-last P fuel n (flat_step P fuel s)

-- a step and then a segment is the segment
pub segment-step : (P : ProgramParts) (fuel : ℕ) (s : At) → IsWithin fuel s.task → segment P fuel (flat_step P fuel s) ≡ segment P fuel s
unfolding segment
segment-step P fuel s within =
    steps-last P fuel (suc fuel) s
    ∙ rest-still P fuel (flat_steps P fuel (suc fuel) s) (steps-rest P fuel (suc fuel) s within (room-most fuel s.task.state.retired s.task.state.end))
