-- A grant is legal exactly where it names the current phase, a core whose task waits for the lock, and a lock that nobody holds.
use Rattle.std.proofs.Common.{◌≡◌, ◌≢◌, ℕ, ◌+◌, ◌≤◌, Bool, true, false, not, if◌then◌else◌, List, [], ◌∷◌, ◌++◌, length, get_or, position, slice_get, slice_index, Option, Some, None, refl, sym, ap, ◌∙◌, subst, arith}
use Rattle.std.specs.List.{All, IsAmong, list_any, position_or_len}
use Rattle.std.proofs.lemmas.Bool.{true≢false, false≢true}
use Rattle.std.proofs.lemmas.Bool.Decides.{nat_tests}
use Rattle.std.proofs.lemmas.List.{get_or_default}
use Rattle.std.proofs.lemmas.List.Elements.{All-append, All-tail}
use Rattle.std.proofs.lemmas.List.Folds.{list_any_none}
use Rattle.std.proofs.lemmas.List.Quantifiers.{position-Some}
use Rattle.std.proofs.lemmas.List.Sums.{fails_before_first}
use Rattle.std.proofs.lemmas.Option.{none-some}
use Rattle.dn_base.specs.declared.ids.Grant.{Grant}
use Rattle.dn_base.specs.declared.ids.LockId.{LockId}
use Rattle.region_table.specs.Program.{ProgramParts}
use Rattle.region_table.specs.declared.declared.TaskDecl.{TaskDecl}
use Rattle.rv_core.specs.declared.task.TaskState.{TaskState}
use Rattle.rv_core.specs.declared.task.End.{End}
use Rattle.rv_core.specs.declared.task.End as cause
use Rattle.rv_core.specs.declared.need.Need.{Need}
use Rattle.rv_core.specs.declared.need.Need as need
use Rattle.rv_core.specs.Access.{is_held}
use Rattle.rv_core.specs.Kinds.{IsAdvance}
use Rattle.rv_core.specs.Need.{need_of}
use Rattle.rv_core.specs.Step.{advanced, loaded_of}
use Rattle.rv_core.specs.Task.{stopped}
use Rattle.rv_core.proofs.Completions.{finished-holds_none}
use Rattle.rv_core.proofs.HeldLemmas.{holds-none}
use Rattle.flat_machine.specs.Step.{Started, At, fresh, wish, wish_unless, step_by, flat_step, WantsLock}
use Rattle.flat_machine.specs.Phases.{Flat, finished_by, has_finished, settled}
use Rattle.flat_machine.specs.Grants.{is_free, grant_of, grant_by, is_grant, can_take, resumed, granted_at, granted, so_far}
use Rattle.flat_machine.specs.Laws.{HasTasks, IsLegal}
use Rattle.flat_machine.proofs.Rest.{advanced-more, loaded-more, wish-open}
use Rattle.flat_machine.proofs.Rights.{wish-need}
use Rattle.flat_machine.proofs.CauseLemmas.{none-passes, acquire-advances, run-past}
use Rattle.flat_machine.proofs.KeptLaws.{run-kept}
use Rattle.flat_machine.proofs.ReachedLaws.{reached-tasks}

-- ---- a task that has finished holds no lock

abbrev pub EndsFree : TaskState → Type 0
EndsFree t = t.end ≡ Some cause.TheVariants.Finished → t.held ≡ 0

open-free : (t : TaskState) → t.end ≡ None → EndsFree t
open-free t opened e = absurd (none-some cause.TheVariants.Finished (sym opened ∙ e))

stopped-free : (P : ProgramParts) (d : TaskDecl) (fuel : ℕ) (t : TaskState) (by : End) → need_of P d fuel t ≡ need.TheVariants.End by → EndsFree (stopped by t)
stopped-free P d fuel t cause.TheVariants.Finished is e = finished-holds_none P d fuel t is
stopped-free P d fuel t cause.TheVariants.Fuel is e = absurd (cc)
stopped-free P d fuel t (cause.TheVariants.Trap kind pc value) is e = absurd (cc)

step-free : (P : ProgramParts) (fuel : ℕ) (s : At) → EndsFree s.task.state → EndsFree (flat_step P fuel s).task.state
step-free P fuel s free = by_wish (wish P fuel s.task) refl
  where
    advances : (n : Need) → IsAdvance n → wish P fuel s.task ≡ Some n → EndsFree (advanced P s.task.state)
    advances n k e =
        open-free (advanced P s.task.state) ((advanced-more P fuel s.task n k e).kept ∙ wish-open P fuel s.task n e)

    by_wish : (o : Option Need) → wish P fuel s.task ≡ o → EndsFree (step_by P s o).task.state
    by_wish None e = free
    by_wish (Some (need.TheVariants.Acquire lock)) e = free
    by_wish (Some need.TheVariants.Local) e = advances need.TheVariants.Local tt e
    by_wish (Some (need.TheVariants.Load word)) e =
        let value = slice_index s.memory word.0 in
        open-free (loaded_of P value s.task.state) ((loaded-more P fuel s.task value (need.TheVariants.Load word) tt e).kept ∙ wish-open P fuel s.task (need.TheVariants.Load word) e)
    by_wish (Some (need.TheVariants.Store word whole)) e = advances (need.TheVariants.Store word whole) tt e
    by_wish (Some (need.TheVariants.Release lock)) e = advances (need.TheVariants.Release lock) tt e
    by_wish (Some (need.TheVariants.End by)) e =
        stopped-free P s.task.decl fuel s.task.state by (wish-need P fuel s.task (need.TheVariants.End by) e)

acquired-free : (P : ProgramParts) (fuel : ℕ) (r : Started) → WantsLock P fuel r → EndsFree (advanced P r.state)
acquired-free P fuel r waits =
    let n : Need = need_of P r.decl fuel r.state in
    let wanted : wish P fuel r ≡ Some n = ap (wish_unless P fuel r) waits.open' in
    open-free (advanced P r.state) ((advanced-more P fuel r n (acquire-advances n waits.wants) wanted).kept ∙ waits.open')

finished-end : (r : Started) → has_finished r ≡ true → r.state.end ≡ Some cause.TheVariants.Finished
finished-end r e = by_end r.state.end e
  where
    by_end : (o : Option End) → finished_by o ≡ true → o ≡ Some cause.TheVariants.Finished
    by_end None e = absurd (cc)
    by_end (Some cause.TheVariants.Finished) e = refl
    by_end (Some cause.TheVariants.Fuel) e = absurd (cc)
    by_end (Some (cause.TheVariants.Trap kind pc value)) e = absurd (cc)

-- the tasks of the phases before hold no lock
past-free : (P : ProgramParts) (fuel lock : ℕ) (gs : List Grant) (F : Flat) → so_far P fuel gs ≡ Some F → All (λ (r : Started). is_held r.state.held lock ≡ false) F.past
past-free P fuel lock gs F e k d within =
    let r : Started = get_or F.past k d in
    let kept = run-kept P fuel (λ (x : Started). EndsFree x.state) (λ m. Unit {0}) (record {
      memory = tt;
      starts = λ i p t there among. open-free (fresh i t).state refl;
      steps = λ s free m. (step-free P fuel s free, tt);
      acquires = λ x waits free. acquired-free P fuel x waits;
    }) gs F e in
    let none : r.state.held ≡ 0 = kept.past k d within (finished-end r (run-past P fuel gs F e k d within)) in
    ap (λ h. is_held h lock) none ∙ holds-none lock

-- ---- which task takes a grant

-- what passes a test stands at the place that is found
pub found : (p : Started → Bool) (xs : List Started) (i : ℕ) → position p xs ≡ Some i → (r : Started) × (IsAmong xs r × (p r ≡ true))
found p [] i e = absurd (none-some i e)
found p (x ∷ xs) i e =
    let at' = position-Some p (x ∷ xs) i x e in
    (get_or (x ∷ xs) i x, ((i, (at'.0, get_or_default (x ∷ xs) i x (get_or (x ∷ xs) i x) at'.0)), at'.1))

-- where something passes a test, a place is found
finds : (p : Started → Bool) (xs : List Started) (r : Started) → IsAmong xs r → p r ≡ true → position p xs ≢ None
finds p xs r among passes none =
    let beyond : length xs ≤ position_or_len p xs = grind (arith, nat_tests) in
    let fails : p (get_or xs among.0 r) ≡ false = fails_before_first p xs among.0 r (let w = among.1.0 in omega arith) in
    true≢false (sym passes ∙ ap p among.1.1 ∙ fails)

-- a task that can take a grant waits for its lock, which no task of the phase holds, and the grant names its phase and core
pub record Takes (P : ProgramParts) (fuel : ℕ) (tasks : List Started) (g : Grant) (r : Started) : Type 0 where
  pub phase : r.phase.0 ≡ g.phase.0
  pub named : r.decl.core ≡ g.core
  pub waits : wish P fuel r ≡ Some (need.TheVariants.Acquire g.lock)
  pub free : is_free tasks g.lock.0 ≡ true

pub takes : (P : ProgramParts) (fuel : ℕ) (tasks : List Started) (g : Grant) (r : Started) → can_take P fuel tasks g r ≡ true → Takes P fuel tasks g r
takes P fuel tasks g r e = by_wish (wish P fuel r) refl e
  where
    by_free : (lock : LockId) → wish P fuel r ≡ Some (need.TheVariants.Acquire lock) → (b : Bool) → is_free tasks lock.0 ≡ b
        → is_grant g (if b then Some (grant_of r lock) else None) ≡ true → Takes P fuel tasks g r
    by_free lock is false free e = absurd (false≢true e)
    by_free lock is true free e =
        let same : lock ≡ g.lock = grind (arith, nat_tests) in
        record {
          phase = grind (arith, nat_tests);
          named = grind (arith, nat_tests);
          waits = is ∙ ap (λ l. Some (need.TheVariants.Acquire l)) same;
          free = ap (λ (l : LockId). is_free tasks l.0) (sym same) ∙ free;
        }

    by_wish : (o : Option Need) → wish P fuel r ≡ o → is_grant g (grant_by tasks r o) ≡ true → Takes P fuel tasks g r
    by_wish None is e = absurd (false≢true e)
    by_wish (Some (need.TheVariants.Acquire lock)) is e = by_free lock is (is_free tasks lock.0) refl e
    by_wish (Some need.TheVariants.Local) is e = absurd (false≢true e)
    by_wish (Some (need.TheVariants.Load word)) is e = absurd (false≢true e)
    by_wish (Some (need.TheVariants.Store word whole)) is e = absurd (false≢true e)
    by_wish (Some (need.TheVariants.Release lock)) is e = absurd (false≢true e)
    by_wish (Some (need.TheVariants.End by)) is e = absurd (false≢true e)

can : (P : ProgramParts) (fuel : ℕ) (tasks : List Started) (g : Grant) (r : Started) → Takes P fuel tasks g r → can_take P fuel tasks g r ≡ true
can P fuel tasks g r h =
    let choice : Bool → Option Grant = λ b. if b then Some (grant_of r g.lock) else None in
    let itself : is_grant g (Some (grant_of r g.lock)) ≡ true = let p = h.phase in let c = h.named in grind (arith, nat_tests) in
    ap (λ (o : Option Need). is_grant g (grant_by tasks r o)) h.waits ∙ ap (λ b. is_grant g (choice b)) h.free ∙ itself

-- ---- legal grants

all-behind : (Q : Started → Type 0) (xs ys : List Started) → All Q (xs ++ ys) → All Q ys
all-behind Q [] ys h = h
all-behind Q (x ∷ xs) ys h = all-behind Q xs ys (All-tail Q x (xs ++ ys) h)

not-any : (b : Bool) → not b ≡ true → b ≡ false
not-any false e = refl
not-any true e = absurd (false≢true e)

-- the current phase is that of its tasks
phase-here : (P : ProgramParts) (F : Flat) (r : Started) → HasTasks P F → IsAmong F.tasks r → r.phase.0 + 1 ≡ F.begun
phase-here P F r h among =
    subst (λ (x : Started). x.phase.0 + 1 ≡ F.begun) (sym among.1.1) (h.here among.0 r among.1.0)

legal : (P : ProgramParts) (fuel : ℕ) (gs : List Grant) (F : Flat) (g : Grant) → so_far P fuel gs ≡ Some F → (r : Started) → IsAmong F.tasks r → can_take P fuel F.tasks g r ≡ true → IsLegal P fuel F g
legal P fuel gs F g e r among passes =
    let h = takes P fuel F.tasks g r passes in
    let holds_it : Started → Bool = λ x. is_held x.state.held g.lock.0 in
    let here = phase-here P F r (reached-tasks P fuel gs F e) among in
    let phase = h.phase in
    record {
      current = omega arith;
      task = r;
      started = among;
      named = h.named;
      waits = h.waits;
      free =
          All-append (λ (x : Started). holds_it x ≡ false) F.past F.tasks (past-free P fuel g.lock.0 gs F e)
          (none-passes holds_it F.tasks (not-any (list_any holds_it F.tasks) h.free));
    }

pub granted-legal : (P : ProgramParts) (fuel : ℕ) (gs : List Grant) (F : Flat) (g : Grant) → so_far P fuel gs ≡ Some F → granted P fuel g F ≢ None → IsLegal P fuel F g
unfolding granted
granted-legal P fuel gs F g e some = by_place (position (can_take P fuel F.tasks g) F.tasks) refl
  where
    by_place : (o : Option ℕ) → position (can_take P fuel F.tasks g) F.tasks ≡ o → IsLegal P fuel F g
    by_place None at' = absurd (some (ap (granted_at P fuel F) at'))
    by_place (Some i) at' =
        let one = found (can_take P fuel F.tasks g) F.tasks i at' in
        legal P fuel gs F g e one.0 one.1.0 one.1.1

pub legal-granted : (P : ProgramParts) (fuel : ℕ) (gs : List Grant) (F : Flat) (g : Grant) → so_far P fuel gs ≡ Some F → IsLegal P fuel F g → granted P fuel g F ≢ None
unfolding granted
legal-granted P fuel gs F g e h = by_place (position (can_take P fuel F.tasks g) F.tasks) refl
  where
    holds_it : Started → Bool
    holds_it x = is_held x.state.held g.lock.0

    taker : Takes P fuel F.tasks g h.task
    taker =
        let here = phase-here P F h.task (reached-tasks P fuel gs F e) h.started in
        let current = h.current in
        record {
          phase = omega arith;
          named = h.named;
          waits = h.waits;
          free = ap not (list_any_none holds_it F.tasks (all-behind (λ (x : Started). holds_it x ≡ false) F.past F.tasks h.free));
        }

    by_place : (o : Option ℕ) → position (can_take P fuel F.tasks g) F.tasks ≡ o → granted_at P fuel F o ≢ None
    by_place None at' =
        absurd (finds (can_take P fuel F.tasks g) F.tasks h.task h.started (can P fuel F.tasks g h.task taker) at')
    by_place (Some i) at' = λ none. none-some (settled P fuel (resumed P fuel F i (slice_get F.tasks i))) (sym none)
