-- In a run of a proven program each task that goes on follows its table, and none ends by a trap outside.
use Rattle.std.proofs.Common.{◌≡◌, ℕ, ◌^◌, ◌≤◌, length, slice_index, slice_get, get_or, Option, Some, None, refl, sym, subst, ◌∙◌}
use Rattle.std.specs.List.{All, IsAmong}
use Rattle.std.proofs.lemmas.List.Elements.{All-append, All-weaker}
use Rattle.std.proofs.lemmas.Option.{slice_get_within, get_or_from_slice_get, none-some}
use Rattle.region_table.specs.Program.{ProgramParts, IsProgram}
use Rattle.region_table.specs.Numbers.{HasWords}
use Rattle.region_table.specs.declared.declared.TaskDecl.{TaskDecl}
use Rattle.region_table.specs.declared.declared.Phase.{Phase}
use Rattle.rv_core.specs.declared.task.TaskState.{TaskState}
use Rattle.rv_core.specs.declared.need.Need.{Need}
use Rattle.rv_core.specs.declared.need.Need as need
use Rattle.rv_core.specs.Kinds.{IsLoad, IsAdvance}
use Rattle.rv_core.specs.Need.{need_of}
use Rattle.rv_core.specs.Step.{advanced, merged_of}
use Rattle.rv_core.specs.Task.{stopped}
use Rattle.rv_core.proofs.Completions.{advanced-end, loaded-end, stopped-end}
use Rattle.flat_machine.specs.Step.{Started, At, fresh, wish, in_state, step_by, flat_step, IsAcquire}
use Rattle.flat_machine.proofs.Rest.{wish-open}
use Rattle.flat_machine.proofs.Rights.{wish-need}
use Rattle.flat_machine.proofs.KeptLaws.{StepsKeep, run-kept}
use Rattle.effect_prover.specs.Table.{Table}
use Rattle.effect_prover.specs.Answer.{IsProvenTask, IsProven, IsTame, RunsInside}
use Rattle.effect_prover.proofs.FollowWords.{AreBelow, set-below, words-below}
use Rattle.effect_prover.proofs.FollowSteps.{Follows, IsSafeTable, advanced-follows, loaded-follows, merged-small, started-follows}
use Rattle.effect_prover.proofs.SoundNeeds.{IsTameNeed, need-tame}

-- a started task has a table that it follows for as long as it hasn't ended, and it hasn't ended by a trap outside
pub record IsSafe (P : ProgramParts) (r : Started) : Type 0 where
  pub table : Table
  pub safe : IsSafeTable P r.decl table
  pub follows : r.state.end ≡ None → Follows P table r.state
  pub tame : IsTame r.state.end

-- ---- one step

-- the task goes on in another state
goes-on : (P : ProgramParts) (r : Started) (h : IsSafe P r) (t : TaskState) → t.end ≡ None → Follows P h.table t → IsSafe P (in_state r t)
goes-on P r h t open' follows =
    record { table = h.table; safe = h.safe; follows = λ e. follows; tame = subst IsTame (sym open') tt }

advances : (P : ProgramParts) (fuel : ℕ) (r : Started) → IsSafe P r → r.state.end ≡ None → IsAdvance (need_of P r.decl fuel r.state) → IsSafe P (in_state r (advanced P r.state))
advances P fuel r h open' k =
    goes-on P r h (advanced P r.state) (advanced-end P r.state ∙ open') (advanced-follows P r.decl h.table fuel r.state h.safe (h.follows open') k)

acquire-advances : (n : Need) → IsAcquire n → IsAdvance n
acquire-advances (need.TheVariants.Acquire lock) k = tt
acquire-advances need.TheVariants.Local k = absurd k
acquire-advances (need.TheVariants.Load word) k = absurd k
acquire-advances (need.TheVariants.Store word whole) k = absurd k
acquire-advances (need.TheVariants.Release lock) k = absurd k
acquire-advances (need.TheVariants.End by) k = absurd k

step-safe : (P : ProgramParts) (fuel : ℕ) (s : At) → IsSafe P s.task → AreBelow (2 ^ 32) s.memory → IsSafe P (flat_step P fuel s).task × AreBelow (2 ^ 32) (flat_step P fuel s).memory
step-safe P fuel s h m = by_wish (wish P fuel s.task) refl
  where
    by_wish : (o : Option Need) → wish P fuel s.task ≡ o → IsSafe P (step_by P s o).task × AreBelow (2 ^ 32) (step_by P s o).memory
    by_wish None e = (h, m)
    by_wish (Some need.TheVariants.Local) e =
        let is = wish-need P fuel s.task need.TheVariants.Local e in
        (advances P fuel s.task h (wish-open P fuel s.task need.TheVariants.Local e) (subst IsAdvance (sym is) tt), m)
    by_wish (Some (need.TheVariants.Load word)) e =
        let n = need.TheVariants.Load word in
        let value = slice_index s.memory word.0 in
        let open' = wish-open P fuel s.task n e in
        let loads : IsLoad (need_of P s.task.decl fuel s.task.state) = subst IsLoad (sym (wish-need P fuel s.task n e)) tt in (
          record {
            table = h.table;
            safe = h.safe;
            follows = λ same. loaded-follows P s.task.decl h.table fuel s.task.state value h.safe (h.follows open') loads (m word.0);
            tame = subst IsTame (sym (loaded-end P value s.task.state ∙ open')) tt;
          },
          m,
        )
    by_wish (Some (need.TheVariants.Store word whole)) e =
        let n = need.TheVariants.Store word whole in
        let open' = wish-open P fuel s.task n e in
        let old = slice_index s.memory word.0 in (
          advances P fuel s.task h open' (subst IsAdvance (sym (wish-need P fuel s.task n e)) tt),
          set-below (2 ^ 32) s.memory word.0 (merged_of P old s.task.state) m (merged-small P s.task.decl h.table s.task.state old h.safe (h.follows open') (m word.0)),
        )
    by_wish (Some (need.TheVariants.Acquire lock)) e = (h, m)
    by_wish (Some (need.TheVariants.Release lock)) e =
        let n = need.TheVariants.Release lock in
        (advances P fuel s.task h (wish-open P fuel s.task n e) (subst IsAdvance (sym (wish-need P fuel s.task n e)) tt), m)
    by_wish (Some (need.TheVariants.End by)) e =
        let n = need.TheVariants.End by in
        let open' = wish-open P fuel s.task n e in
        let ended : (stopped by s.task.state).end ≡ Some by = stopped-end by s.task.state in (
          record {
            table = h.table;
            safe = h.safe;
            follows = λ same. absurd (none-some by (sym same ∙ ended));
            tame = subst IsTame (sym ended) (subst IsTameNeed (wish-need P fuel s.task n e) (need-tame P s.task.decl h.table fuel s.task.state h.safe (h.follows open')));
          },
          m,
        )

-- ---- the start of a task

proven-at : (P : ProgramParts) → IsProven P → (k : ℕ) (p : Phase) (d : TaskDecl) → slice_get P.phases k ≡ Some p → IsAmong p.tasks d → IsProvenTask P d
proven-at P proven k p d there among =
    let is : get_or P.phases k p ≡ p = get_or_from_slice_get P.phases k p p there in
    let phase : All (IsProvenTask P) p.tasks =
    subst (λ (q : Phase). All (IsProvenTask P) q.tasks) is (proven k p (slice_get_within P.phases k p there)) in
    subst (IsProvenTask P) (sym among.1.1) (phase among.0 d among.1.0)

fresh-safe : (P : ProgramParts) (k : ℕ) (d : TaskDecl) → length P.code ≤ 16384 → IsProvenTask P d → IsSafe P (fresh k d)
fresh-safe P k d code proven =
    let safe : IsSafeTable P d proven.table = record { code = code; closed = proven.least.closed; inside = proven.inside } in
    record { table = proven.table; safe = safe; follows = λ e. started-follows P d proven.table safe; tame = tt }

-- ---- runs

pub proven-runs_inside : (P : ProgramParts) → IsProgram P → HasWords P → IsProven P → RunsInside P
proven-runs_inside P program words proven fuel gs F leads =
    let Tame : Started → Type 0 = λ r. IsTame r.state.end in
    let keeps : StepsKeep P fuel (IsSafe P) (AreBelow (2 ^ 32)) = record {
      memory = words-below P.memory words.memory;
      starts = λ k p d there among. fresh-safe P k d program.code (proven-at P proven k p d there among);
      steps = step-safe P fuel;
      acquires = λ r waits h. advances P fuel r h waits.open' (acquire-advances (need_of P r.decl fuel r.state) waits.wants);
    } in
    let all = run-kept P fuel (IsSafe P) (AreBelow (2 ^ 32)) keeps gs F leads in
    let tame : (r : Started) → IsSafe P r → Tame r = λ r h. h.tame in
    All-append Tame F.past F.tasks (All-weaker (IsSafe P) Tame tame F.past all.past) (All-weaker (IsSafe P) Tame tame F.tasks all.tasks)
