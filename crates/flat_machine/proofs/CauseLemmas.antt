-- Why the tasks of a run stand still: they have used up their fuel, or want a lock that another task holds.
use Rattle.std.proofs.Common.{◌≡◌, ℕ, zero, suc, Bool, true, false, not, if◌then◌else◌, ◌⊎◌, inl, inr, List, [], ◌∷◌, ◌++◌, drop, get_or, map, position, slice_get, slice_index, Option, Some, None, is_none, refl, sym, ap, ◌∙◌, subst, arith}
use Rattle.std.specs.Option.{option_or}
use Rattle.std.specs.List.{All, Any, list_all, list_any}
use Rattle.std.proofs.lemmas.Bool.{true≢false, false≢true, true_from_ne_false, false_from_ne_true}
use Rattle.std.proofs.lemmas.List.Elements.{All-nil, All-cons, All-append, All-set, All-map, All-weaker}
use Rattle.std.proofs.lemmas.List.Folds.{Any-from_list_any, list_any_none, list_any_at, list_all_at}
use Rattle.std.proofs.lemmas.Option.{none-some, same_Some, cond_some, slice_get-get_or, slice_get_within, get_or_from_slice_get}
use Rattle.dn_base.specs.declared.ids.Grant.{Grant}
use Rattle.dn_base.specs.declared.ids.LockId.{LockId}
use Rattle.dn_base.specs.declared.status.Outcome.{Outcome}
use Rattle.dn_base.specs.declared.status.Outcome as outcome
use Rattle.region_table.specs.Program.{ProgramParts}
use Rattle.region_table.specs.declared.declared.TaskDecl.{TaskDecl}
use Rattle.region_table.specs.declared.declared.Phase.{Phase}
use Rattle.rv_core.specs.declared.task.TaskState.{TaskState}
use Rattle.rv_core.specs.declared.task.End.{End}
use Rattle.rv_core.specs.declared.task.End as cause
use Rattle.rv_core.specs.declared.need.Need.{Need}
use Rattle.rv_core.specs.declared.need.Need as need
use Rattle.rv_core.specs.declared.ending.EndShown.{EndShown}
use Rattle.rv_core.specs.declared.ending.EndShown as shown
use Rattle.rv_core.specs.declared.ending.TaskEnd.{TaskEnd}
use Rattle.rv_core.specs.Access.{is_held}
use Rattle.rv_core.specs.Kinds.{IsAdvance, EndsByFuel}
use Rattle.rv_core.specs.Need.{need_of}
use Rattle.rv_core.specs.Step.{advanced, loaded_of}
use Rattle.rv_core.specs.Task.{stopped}
use Rattle.rv_core.proofs.Needs.{need-fuel}
use Rattle.flat_machine.specs.declared.ending.FlatEnd.{FlatEnd}
use Rattle.flat_machine.specs.Step.{Started, At, fresh, wish, wish_unless, in_state, step_by, flat_step, flat_steps, segment, IsWithin, IsAcquire, WantsLock}
use Rattle.flat_machine.specs.Phases.{Flat, run_all, begin, finished_by, has_finished, settle, settled, initial, initial_flat}
use Rattle.flat_machine.specs.Grants.{grant_by, grant_for, can_take, go_on, with_task, resumed, granted_at, granted, granted_if, grants_from, so_far, first_grant, next_grant, grants_are_whole}
use Rattle.rv_core.specs.Ending.{is_waiting, is_trapped, is_spent, outcome_of}
use Rattle.flat_machine.specs.Ending.{wait_shown, shown_of, task_end, flat_end_of, whole_only, flat_end}
use Rattle.flat_machine.specs.Laws.{EndsSegment, HasUsedUp, IsOutOfFuel, IsHeldUp, IsEnded}
use Rattle.flat_machine.proofs.Rest.{IsLess, advanced-more, loaded-more, wish-open, step-less, rest-still, segment-rest}
use Rattle.flat_machine.proofs.Rights.{wish-need, told}
use Rattle.flat_machine.proofs.PhaseLemmas.{begin-past}
use Rattle.flat_machine.proofs.GrantLemmas.{place-waits}

-- ---- a task within a segment

-- a task that has ended for want of fuel has retired just as many instructions as it may
abbrev pub EndsSpent : ℕ → TaskState → Type 0
EndsSpent fuel t = t.end ≡ Some cause.TheVariants.Fuel → t.retired ≡ fuel

-- the task has retired no more instructions than it may, and just as many where it has ended for want of fuel
pub record IsSteady (fuel : ℕ) (r : Started) : Type 0 where
  pub within : IsWithin fuel r
  pub spent : EndsSpent fuel r.state

pub fresh-steady : (fuel phase : ℕ) (d : TaskDecl) → IsSteady fuel (fresh phase d)
fresh-steady fuel phase d = record { within = λ e. omega arith; spent = λ e. absurd (none-some cause.TheVariants.Fuel e) }

open-spent : (fuel : ℕ) (t : TaskState) → t.end ≡ None → EndsSpent fuel t
open-spent fuel t initial_flat e = absurd (none-some cause.TheVariants.Fuel (sym initial_flat ∙ e))

stopped-spent : (P : ProgramParts) (d : TaskDecl) (fuel : ℕ) (t : TaskState) (by : End) → need_of P d fuel t ≡ need.TheVariants.End by → EndsSpent fuel (stopped by t)
stopped-spent P d fuel t cause.TheVariants.Fuel is e = (need-fuel P d fuel t).0 (subst EndsByFuel (sym is) tt)
stopped-spent P d fuel t cause.TheVariants.Finished is e = absurd (cc)
stopped-spent P d fuel t (cause.TheVariants.Trap kind pc value) is e = absurd (cc)

step-spent : (P : ProgramParts) (fuel : ℕ) (s : At) → EndsSpent fuel s.task.state → EndsSpent fuel (flat_step P fuel s).task.state
step-spent P fuel s spent = by_wish (wish P fuel s.task) refl
  where
    advances : (n : Need) → IsAdvance n → wish P fuel s.task ≡ Some n → EndsSpent fuel (advanced P s.task.state)
    advances n k e =
        open-spent fuel (advanced P s.task.state) ((advanced-more P fuel s.task n k e).kept ∙ wish-open P fuel s.task n e)

    by_wish : (o : Option Need) → wish P fuel s.task ≡ o → EndsSpent fuel (step_by P s o).task.state
    by_wish None e = spent
    by_wish (Some (need.TheVariants.Acquire lock)) e = spent
    by_wish (Some need.TheVariants.Local) e = advances need.TheVariants.Local tt e
    by_wish (Some (need.TheVariants.Load word)) e =
        let value = slice_index s.memory word.0 in
        open-spent fuel (loaded_of P value s.task.state) ((loaded-more P fuel s.task value (need.TheVariants.Load word) tt e).kept ∙ wish-open P fuel s.task (need.TheVariants.Load word) e)
    by_wish (Some (need.TheVariants.Store word whole)) e = advances (need.TheVariants.Store word whole) tt e
    by_wish (Some (need.TheVariants.Release lock)) e = advances (need.TheVariants.Release lock) tt e
    by_wish (Some (need.TheVariants.End by)) e =
        stopped-spent P s.task.decl fuel s.task.state by (wish-need P fuel s.task (need.TheVariants.End by) e)

pub step-within : (P : ProgramParts) (fuel : ℕ) (s : At) → IsWithin fuel s.task → IsWithin fuel (flat_step P fuel s).task
step-within P fuel s within = by_step (step-less P fuel s within)
  where
    by_step : EndsSegment (wish P fuel s.task) ⊎ IsLess fuel s.task.state (flat_step P fuel s).task.state → IsWithin fuel (flat_step P fuel s).task
    by_step (inl rest) = subst (λ (x : At). IsWithin fuel x.task) (sym (rest-still P fuel s rest)) within
    by_step (inr less) = less.within

steps-steady : (P : ProgramParts) (fuel n : ℕ) (s : At) → IsSteady fuel s.task → IsSteady fuel (flat_steps P fuel n s).task
steps-steady P fuel zero s h = h
steps-steady P fuel (suc n) s h =
    steps-steady P fuel n (flat_step P fuel s) (record { within = step-within P fuel s h.within; spent = step-spent P fuel s h.spent })

-- the task has come to rest
pub record HasSettled (P : ProgramParts) (fuel : ℕ) (r : Started) : Type 0 where
  pub rest : EndsSegment (wish P fuel r)
  pub steady : IsSteady fuel r

pub segment-steady : (P : ProgramParts) (fuel : ℕ) (s : At) → IsSteady fuel s.task → IsSteady fuel (segment P fuel s).task
unfolding segment
segment-steady P fuel s h = steps-steady P fuel (suc fuel) s h

segment-settled : (P : ProgramParts) (fuel : ℕ) (s : At) → IsSteady fuel s.task → HasSettled P fuel (segment P fuel s).task
segment-settled P fuel s h = record { rest = segment-rest P fuel s h.within; steady = segment-steady P fuel s h }

-- ---- the tasks of a run

-- the tasks of the phases before have finished, and those of the last phase have come to rest
pub record IsResting (P : ProgramParts) (fuel : ℕ) (F : Flat) : Type 0 where
  pub past : All (λ (r : Started). has_finished r ≡ true) F.past
  pub tasks : All (HasSettled P fuel) F.tasks

pub all-pass : {X : Type 0} (p : X → Bool) (xs : List X) → list_all p xs ≡ true → All (λ x. p x ≡ true) xs
all-pass p xs e k d within = true_from_ne_false (p (get_or xs k d)) (λ fails. true≢false (sym e ∙ list_all_at p xs k d within fails))

pub none-passes : {X : Type 0} (p : X → Bool) (xs : List X) → list_any p xs ≡ false → All (λ x. p x ≡ false) xs
none-passes p xs e k d within = false_from_ne_true (p (get_or xs k d)) (λ passes. true≢false (sym (list_any_at p xs k d within passes) ∙ e))

all-settled : (P : ProgramParts) (fuel phase : ℕ) (ds : List TaskDecl) (m : List ℕ) → All (HasSettled P fuel) (run_all P fuel phase ds m).tasks
all-settled P fuel phase [] m = All-nil (HasSettled P fuel)
all-settled P fuel phase (d ∷ ds) m =
    let s : At = segment P fuel (record { task = fresh phase d; memory = m }) in
    All-cons (HasSettled P fuel) s.task (run_all P fuel phase ds s.memory).tasks
    (segment-settled P fuel (record { task = fresh phase d; memory = m }) (fresh-steady fuel phase d))
    (all-settled P fuel phase ds s.memory)

begin-tasks : (P : ProgramParts) (fuel : ℕ) (phase : Phase) (F : Flat) → (begin P fuel phase F).tasks ≡ (run_all P fuel F.begun phase.tasks F.memory).tasks
unfolding begin
begin-tasks P fuel phase F = refl

begin-resting : (P : ProgramParts) (fuel : ℕ) (phase : Phase) (F : Flat) → list_all has_finished F.tasks ≡ true → IsResting P fuel F → IsResting P fuel (begin P fuel phase F)
begin-resting P fuel phase F done h =
    record {
      past = subst (All (λ (r : Started). has_finished r ≡ true)) (sym (begin-past P fuel phase F))
          (All-append (λ (r : Started). has_finished r ≡ true) F.past F.tasks h.past (all-pass has_finished F.tasks done));
      tasks = subst (All (HasSettled P fuel)) (sym (begin-tasks P fuel phase F)) (all-settled P fuel F.begun phase.tasks F.memory);
    }

settle-resting : (P : ProgramParts) (fuel : ℕ) (left : List Phase) (F : Flat) → IsResting P fuel F → IsResting P fuel (settle P fuel left F)
settle-resting P fuel [] F h = h
settle-resting P fuel (p ∷ left) F h =
    by_test (list_all has_finished F.tasks) refl (λ (done : list_all has_finished F.tasks ≡ true). settle-resting P fuel left (begin P fuel p F) (begin-resting P fuel p F done h))
  where
    by_test : (b : Bool) → list_all has_finished F.tasks ≡ b → (list_all has_finished F.tasks ≡ true → IsResting P fuel (settle P fuel left (begin P fuel p F)))
        → IsResting P fuel (if b then settle P fuel left (begin P fuel p F) else F)
    by_test true e later = later e
    by_test false e later = h

pub opened-resting : (P : ProgramParts) (fuel : ℕ) → IsResting P fuel (initial_flat P fuel)
unfolding initial_flat
opened-resting P fuel =
    settle-resting P fuel (drop 0 P.phases) (initial P) (record { past = All-nil (λ (r : Started). has_finished r ≡ true); tasks = All-nil (HasSettled P fuel) })

-- ---- a grant

pub acquire-advances : (n : Need) → IsAcquire n → IsAdvance n
acquire-advances (need.TheVariants.Acquire lock) k = tt
acquire-advances need.TheVariants.Local k = absurd k
acquire-advances (need.TheVariants.Load word) k = absurd k
acquire-advances (need.TheVariants.Store word whole) k = absurd k
acquire-advances (need.TheVariants.Release lock) k = absurd k
acquire-advances (need.TheVariants.End by) k = absurd k

-- a task that acquires the lock that it wants has had fuel for it
pub acquired-steady : (P : ProgramParts) (fuel : ℕ) (r : Started) → WantsLock P fuel r → IsWithin fuel r → IsSteady fuel (in_state r (advanced P r.state))
acquired-steady P fuel r waits within =
    let n : Need = need_of P r.decl fuel r.state in
    let wanted : wish P fuel r ≡ Some n = ap (wish_unless P fuel r) waits.open' in
    let more = advanced-more P fuel r n (acquire-advances n waits.wants) wanted in
    let before = within waits.open' in
    let one = more.retired in
    let unspent = more.unspent in
    record { within = λ e. omega arith; spent = open-spent fuel (advanced P r.state) (more.kept ∙ waits.open') }

with_task-resting : (P : ProgramParts) (fuel : ℕ) (F : Flat) (i : ℕ) (r : Started) → IsResting P fuel F → slice_get F.tasks i ≡ Some r → WantsLock P fuel r
    → IsResting P fuel (with_task F i (go_on P fuel r F.memory))
with_task-resting P fuel F i r h there waits =
    let is : get_or F.tasks i r ≡ r = get_or_from_slice_get F.tasks i r r there in
    let before : HasSettled P fuel r = subst (HasSettled P fuel) is (h.tasks i r (slice_get_within F.tasks i r there)) in
    let after = segment-settled P fuel (record { task = in_state r (advanced P r.state); memory = F.memory }) (acquired-steady P fuel r waits before.steady.within) in
    record { past = h.past; tasks = All-set (HasSettled P fuel) F.tasks i (go_on P fuel r F.memory).task after h.tasks }

resumed-resting : (P : ProgramParts) (fuel : ℕ) (F : Flat) (i : ℕ) → IsResting P fuel F → ((d : Started) → WantsLock P fuel (get_or F.tasks i d)) → IsResting P fuel (resumed P fuel F i (slice_get F.tasks i))
resumed-resting P fuel F i h waits = by_place (slice_get F.tasks i) refl
  where
    by_place : (o : Option Started) → slice_get F.tasks i ≡ o → IsResting P fuel (resumed P fuel F i o)
    by_place None e = h
    by_place (Some r) e =
        with_task-resting P fuel F i r h e (subst (WantsLock P fuel) (get_or_from_slice_get F.tasks i r r e) (waits r))

pub granted-resting : (P : ProgramParts) (fuel : ℕ) (g : Grant) (F G : Flat) → IsResting P fuel F → granted P fuel g F ≡ Some G → IsResting P fuel G
unfolding granted
granted-resting P fuel g F G h e = by_place (position (can_take P fuel F.tasks g) F.tasks) refl e
  where
    by_place : (o : Option ℕ) → position (can_take P fuel F.tasks g) F.tasks ≡ o → granted_at P fuel F o ≡ Some G → IsResting P fuel G
    by_place None at e = absurd (none-some G e)
    by_place (Some i) at e =
        let next : Flat = resumed P fuel F i (slice_get F.tasks i) in
        subst (IsResting P fuel) (same_Some (settled P fuel next) G e)
        (settle-resting P fuel (drop next.begun P.phases) next (resumed-resting P fuel F i h (place-waits P fuel F.tasks g i at)))

grants-resting : (P : ProgramParts) (fuel : ℕ) (o : Option Flat) (gs : List Grant) → ((F : Flat) → o ≡ Some F → IsResting P fuel F)
    → (G : Flat) → grants_from P fuel o gs ≡ Some G → IsResting P fuel G
grants-resting P fuel o [] h G e = h G e
grants-resting P fuel o (g ∷ gs) h G e = grants-resting P fuel (granted_if P fuel o g) gs (one o h) G e
  where
    one : (p : Option Flat) → ((F : Flat) → p ≡ Some F → IsResting P fuel F) → (K : Flat) → granted_if P fuel p g ≡ Some K → IsResting P fuel K
    one None before K k = absurd (none-some K k)
    one (Some F) before K k = granted-resting P fuel g F K (before F refl) k

pub run-resting : (P : ProgramParts) (fuel : ℕ) (gs : List Grant) (F : Flat) → so_far P fuel gs ≡ Some F → IsResting P fuel F
run-resting P fuel gs =
    grants-resting P fuel (Some (initial_flat P fuel)) gs (λ G e. subst (IsResting P fuel) (same_Some (initial_flat P fuel) G e) (opened-resting P fuel))

pub run-past : (P : ProgramParts) (fuel : ℕ) (gs : List Grant) (F : Flat) → so_far P fuel gs ≡ Some F → All (λ (r : Started). has_finished r ≡ true) F.past
run-past P fuel gs F e = (run-resting P fuel gs F e).past

-- ---- how the tasks are shown

finished-spent : (P : ProgramParts) (fuel : ℕ) (r : Started) → has_finished r ≡ true → HasUsedUp fuel (task_end P fuel r)
finished-spent P fuel r = by_end r.state.end
  where
    by_end : (o : Option End) → finished_by o ≡ true → shown_of P fuel r o ≡ shown.TheVariants.Fuel → r.state.retired ≡ fuel
    by_end (Some cause.TheVariants.Finished) done e = absurd (cc)
    by_end (Some cause.TheVariants.Fuel) done e = absurd (cc)
    by_end (Some (cause.TheVariants.Trap kind pc value)) done e = absurd (cc)
    by_end None done e = absurd (cc)

settled-spent : (P : ProgramParts) (fuel : ℕ) (r : Started) → HasSettled P fuel r → HasUsedUp fuel (task_end P fuel r)
settled-spent P fuel r h = by_end r.state.end refl h.rest
  where
    by_need : (n : Need) → EndsSegment (Some n) → wait_shown n ≡ shown.TheVariants.Fuel → r.state.retired ≡ fuel
    by_need (need.TheVariants.Acquire lock) rest e = absurd (cc)
    by_need need.TheVariants.Local rest e = absurd rest
    by_need (need.TheVariants.Load word) rest e = absurd rest
    by_need (need.TheVariants.Store word whole) rest e = absurd rest
    by_need (need.TheVariants.Release lock) rest e = absurd rest
    by_need (need.TheVariants.End by) rest e = absurd rest

    by_end : (o : Option End) → r.state.end ≡ o → EndsSegment (wish_unless P fuel r o) → shown_of P fuel r o ≡ shown.TheVariants.Fuel → r.state.retired ≡ fuel
    by_end (Some cause.TheVariants.Finished) is rest e = absurd (cc)
    by_end (Some cause.TheVariants.Fuel) is rest e = h.steady.spent is
    by_end (Some (cause.TheVariants.Trap kind pc value)) is rest e = absurd (cc)
    by_end None is rest e = by_need (need_of P r.decl fuel r.state) rest e

all-spent : (P : ProgramParts) (fuel : ℕ) (F : Flat) → IsResting P fuel F → All (HasUsedUp fuel) (map (task_end P fuel) (F.past ++ F.tasks))
all-spent P fuel F h =
    let Spent : Started → Type 0 = λ r. HasUsedUp fuel (task_end P fuel r) in
    All-map (HasUsedUp fuel) (task_end P fuel) (F.past ++ F.tasks)
    (All-append Spent F.past F.tasks
    (All-weaker (λ (r : Started). has_finished r ≡ true) Spent (finished-spent P fuel) F.past h.past)
    (All-weaker (HasSettled P fuel) Spent (settled-spent P fuel) F.tasks h.tasks))

-- ---- the ending of a run

ended-by : (P : ProgramParts) (fuel : ℕ) (gs : List Grant) (F : Flat) → so_far P fuel gs ≡ Some F → grants_are_whole P fuel F ≡ true → IsEnded P fuel gs (flat_end_of P fuel F)
unfolding flat_end_of
ended-by P fuel gs F e whole = record { last = F; leads = e; whole = whole; tasks = refl; memory = refl; outcome = refl; loads = refl }

-- the end of a whole run is that of its last state
pub run-ended : (P : ProgramParts) (fuel : ℕ) (gs : List Grant) (e : FlatEnd) → flat_end P fuel gs ≡ Some e → IsEnded P fuel gs e
unfolding flat_end
run-ended P fuel gs e ends = by_run (so_far P fuel gs) refl ends
  where
    by_run : (o : Option Flat) → so_far P fuel gs ≡ o → whole_only P fuel o ≡ Some e → IsEnded P fuel gs e
    by_run None is k = absurd (none-some e k)
    by_run (Some F) is k =
        let parts = cond_some (grants_are_whole P fuel F) (flat_end_of P fuel F) e k in
        subst (IsEnded P fuel gs) parts.1 (ended-by P fuel gs F is parts.0)

pub whole-ends : (P : ProgramParts) (fuel : ℕ) (gs : List Grant) (F : Flat) → so_far P fuel gs ≡ Some F → grants_are_whole P fuel F ≡ true → flat_end P fuel gs ≡ Some (flat_end_of P fuel F)
unfolding flat_end
whole-ends P fuel gs F is whole =
    let choice : Bool → Option FlatEnd = λ b. if b then Some (flat_end_of P fuel F) else None in
    ap (whole_only P fuel) is ∙ ap choice whole

pub run-spent : (P : ProgramParts) (fuel : ℕ) (gs : List Grant) (e : FlatEnd) → flat_end P fuel gs ≡ Some e → All (HasUsedUp fuel) e.ending.tasks
run-spent P fuel gs e ends =
    let h = run-ended P fuel gs e ends in
    subst (All (HasUsedUp fuel)) (sym h.tasks) (all-spent P fuel h.last (run-resting P fuel gs h.last h.leads))

-- the outcome by whether some task waits, some has trapped, and some is out of fuel
abbrev pub picked : Bool → Bool → Bool → Outcome
picked waits traps spent =
    if waits then outcome.TheVariants.Stuck
    else if traps then outcome.TheVariants.Trapped
    else if spent then outcome.TheVariants.Fuel
    else outcome.TheVariants.Done

picked-fuel : (a b c : Bool) → picked a b c ≡ outcome.TheVariants.Fuel → (a ≡ false) × (b ≡ false) × (c ≡ true)
picked-fuel true b c e = absurd (cc)
picked-fuel false true c e = absurd (cc)
picked-fuel false false true e = (refl, refl, refl)
picked-fuel false false false e = absurd (cc)

picked-stuck : (a b c : Bool) → picked a b c ≡ outcome.TheVariants.Stuck → a ≡ true
picked-stuck true b c e = refl
picked-stuck false true c e = absurd (cc)
picked-stuck false false true e = absurd (cc)
picked-stuck false false false e = absurd (cc)

spent-shown : (s : EndShown) → is_spent s ≡ true → s ≡ shown.TheVariants.Fuel
spent-shown shown.TheVariants.Fuel e = refl
spent-shown shown.TheVariants.Finished e = absurd (false≢true e)
spent-shown (shown.TheVariants.Trap kind pc value) e = absurd (false≢true e)
spent-shown (shown.TheVariants.Waits lock) e = absurd (false≢true e)

fuel-shown : (fuel : ℕ) (ends : List TaskEnd) → All (HasUsedUp fuel) ends → outcome_of ends ≡ outcome.TheVariants.Fuel → IsOutOfFuel fuel ends
unfolding outcome_of
fuel-shown fuel ends h e =
    let waits : TaskEnd → Bool = λ t. is_waiting t.end in
    let traps : TaskEnd → Bool = λ t. is_trapped t.end in
    let spends : TaskEnd → Bool = λ t. is_spent t.end in
    let tests = picked-fuel (list_any waits ends) (list_any traps ends) (list_any spends ends) e in
    let one = Any-from_list_any spends ends tests.2 in
    let shows : one.1.end ≡ shown.TheVariants.Fuel = spent-shown one.1.end one.4 in
    let used : HasUsedUp fuel one.1 = subst (HasUsedUp fuel) one.3 (h one.0 one.1 one.2) in
    record {
      spent = (one.0, one.1, one.2, one.3, (shows, used shows));
      untrapped = none-passes traps ends tests.1;
      unheld = none-passes waits ends tests.0;
    }

stuck-waits : (ends : List TaskEnd) → outcome_of ends ≡ outcome.TheVariants.Stuck → list_any (λ (t : TaskEnd). is_waiting t.end) ends ≡ true
unfolding outcome_of
stuck-waits ends e =
    picked-stuck (list_any (λ (t : TaskEnd). is_waiting t.end) ends) (list_any (λ (t : TaskEnd). is_trapped t.end) ends) (list_any (λ (t : TaskEnd). is_spent t.end) ends) e

pub run-out_of_fuel : (P : ProgramParts) (fuel : ℕ) (gs : List Grant) (e : FlatEnd) → flat_end P fuel gs ≡ Some e → e.ending.outcome ≡ outcome.TheVariants.Fuel → IsOutOfFuel fuel e.ending.tasks
run-out_of_fuel P fuel gs e ends is =
    fuel-shown fuel e.ending.tasks (run-spent P fuel gs e ends) (sym (run-ended P fuel gs e ends).outcome ∙ is)

pub run-stuck : (P : ProgramParts) (fuel : ℕ) (gs : List Grant) (e : FlatEnd) → flat_end P fuel gs ≡ Some e → e.ending.outcome ≡ outcome.TheVariants.Stuck
    → Any (λ (t : TaskEnd). is_waiting t.end ≡ true) e.ending.tasks
run-stuck P fuel gs e ends is =
    Any-from_list_any (λ (t : TaskEnd). is_waiting t.end) e.ending.tasks (stuck-waits e.ending.tasks (sym (run-ended P fuel gs e ends).outcome ∙ is))

-- a task that has ended isn't shown as waiting
ended-shown : (P : ProgramParts) (fuel : ℕ) (r : Started) → is_none r.state.end ≡ false → is_waiting (task_end P fuel r).end ≡ false
ended-shown P fuel r = by_end r.state.end
  where
    by_end : (o : Option End) → is_none o ≡ false → is_waiting (shown_of P fuel r o) ≡ false
    by_end (Some cause.TheVariants.Finished) e = refl
    by_end (Some cause.TheVariants.Fuel) e = refl
    by_end (Some (cause.TheVariants.Trap kind pc value)) e = refl
    by_end None e = absurd (true≢false e)

finished-ended : (r : Started) → has_finished r ≡ true → is_none r.state.end ≡ false
finished-ended r = by_end r.state.end
  where
    by_end : (o : Option End) → finished_by o ≡ true → is_none o ≡ false
    by_end (Some by) e = refl
    by_end None e = absurd (false≢true e)

end-outcome : (P : ProgramParts) (fuel : ℕ) (F : Flat) → (flat_end_of P fuel F).ending.outcome ≡ outcome_of (map (task_end P fuel) (F.past ++ F.tasks))
unfolding flat_end_of
end-outcome P fuel F = refl

-- if all tasks of the last phase have ended, none is shown as waiting
pub all-shown : (P : ProgramParts) (fuel : ℕ) (F : Flat) → IsResting P fuel F → All (λ (r : Started). is_none r.state.end ≡ false) F.tasks
    → All (λ (t : TaskEnd). is_waiting t.end ≡ false) (map (task_end P fuel) (F.past ++ F.tasks))
all-shown P fuel F h over =
    let Shown : TaskEnd → Type 0 = λ t. is_waiting t.end ≡ false in
    let Ends : Started → Type 0 = λ r. is_none r.state.end ≡ false in
    let ended = All-append Ends F.past F.tasks (All-weaker (λ (r : Started). has_finished r ≡ true) Ends finished-ended F.past h.past) over in
    All-map Shown (task_end P fuel) (F.past ++ F.tasks) (All-weaker Ends (λ (r : Started). Shown (task_end P fuel r)) (ended-shown P fuel) (F.past ++ F.tasks) ended)

no-waiter : (P : ProgramParts) (fuel : ℕ) (F : Flat) → IsResting P fuel F → list_any (λ (r : Started). is_none r.state.end) F.tasks ≡ false
    → list_any (λ (t : TaskEnd). is_waiting t.end) (map (task_end P fuel) (F.past ++ F.tasks)) ≡ false
no-waiter P fuel F h none =
    list_any_none (λ (t : TaskEnd). is_waiting t.end) (map (task_end P fuel) (F.past ++ F.tasks))
    (all-shown P fuel F h (none-passes (λ (r : Started). is_none r.state.end) F.tasks none))

no-end : (o : Option End) → is_none o ≡ true → o ≡ None
no-end None e = refl
no-end (Some by) e = absurd (false≢true e)

pub run-waiter : (P : ProgramParts) (fuel : ℕ) (gs : List Grant) (F : Flat) → so_far P fuel gs ≡ Some F → (flat_end_of P fuel F).ending.outcome ≡ outcome.TheVariants.Stuck
    → Any (λ (r : Started). r.state.end ≡ None) F.tasks
run-waiter P fuel gs F leads is =
    let goes_on : Started → Bool = λ r. is_none r.state.end in
    let waits = stuck-waits (map (task_end P fuel) (F.past ++ F.tasks)) (sym (end-outcome P fuel F) ∙ is) in
    let some : list_any goes_on F.tasks ≡ true =
    true_from_ne_false (list_any goes_on F.tasks) (λ none. true≢false (sym waits ∙ no-waiter P fuel F (run-resting P fuel gs F leads) none)) in
    let one = Any-from_list_any goes_on F.tasks some in
    (one.0, one.1, one.2, one.3, no-end one.1.state.end one.4)

-- ---- a task that waits when no grant can be taken

first-or_none : (o q : Option Grant) → option_or o q ≡ None → (o ≡ None) × (q ≡ None)
first-or_none None q e = (refl, e)
first-or_none (Some g) q e = absurd (none-some g (sym e))

no-grant_at : (P : ProgramParts) (fuel : ℕ) (tasks rs : List Started) (i : ℕ) (r : Started) → first_grant P fuel tasks rs ≡ None → slice_get rs i ≡ Some r → grant_for P fuel tasks r ≡ None
no-grant_at P fuel tasks [] i r none there = absurd (none-some r there)
no-grant_at P fuel tasks (x ∷ rs) zero r none there =
    let parts = first-or_none (grant_for P fuel tasks x) (first_grant P fuel tasks rs) none in
    subst (λ (y : Started). grant_for P fuel tasks y ≡ None) (same_Some x r there) parts.0
no-grant_at P fuel tasks (x ∷ rs) (suc i) r none there =
    let parts = first-or_none (grant_for P fuel tasks x) (first_grant P fuel tasks rs) none in
    no-grant_at P fuel tasks rs i r parts.1 there

-- a lock that isn't free is held
taken : (any : Bool) (g : Grant) → (if not any then Some g else None) ≡ None → any ≡ true
taken true g e = refl
taken false g e = absurd (none-some g (sym e))

held-up : (P : ProgramParts) (fuel : ℕ) (tasks : List Started) (i : ℕ) (r : Started) → first_grant P fuel tasks tasks ≡ None → slice_get tasks i ≡ Some r → r.state.end ≡ None
    → EndsSegment (wish P fuel r) → IsHeldUp P fuel tasks i r
held-up P fuel tasks i r none there initial_flat rest =
    by_need (need_of P r.decl fuel r.state) refl (subst EndsSegment wanted rest)
  where
    wanted : wish P fuel r ≡ Some (need_of P r.decl fuel r.state)
    wanted = ap (wish_unless P fuel r) initial_flat

    by_lock : (lock : LockId) → need_of P r.decl fuel r.state ≡ need.TheVariants.Acquire lock → IsHeldUp P fuel tasks i r
    by_lock lock is =
        let held : Started → Bool = λ t. is_held t.state.held lock.0 in
        let wants : wish P fuel r ≡ Some (need.TheVariants.Acquire lock) = wanted ∙ ap Some is in
        let no_grant : grant_by tasks r (Some (need.TheVariants.Acquire lock)) ≡ None = ap (grant_by tasks r) (sym wants) ∙ no-grant_at P fuel tasks tasks i r none there in
        let one = Any-from_list_any held tasks (taken (list_any held tasks) (record { phase = r.phase; core = r.decl.core; lock = lock }) no_grant) in
        let at' : slice_get tasks one.0 ≡ Some one.1 = slice_get-get_or tasks one.0 one.1 one.2 ∙ ap Some one.3 in
        let lacks : held r ≡ false = (told P fuel r (need.TheVariants.Acquire lock) wants).1 in
        record {
          lock = lock;
          wants = is;
          shows = ap (shown_of P fuel r) initial_flat ∙ ap wait_shown is;
          place = one.0;
          apart = λ (same : one.0 ≡ i).
              let itself : one.1 ≡ r = same_Some one.1 r (sym at' ∙ ap (slice_get tasks) same ∙ there) in
              false≢true (sym lacks ∙ ap held (sym itself) ∙ one.4);
          holder = one.1;
          there = at';
          holding = one.4;
        }

    by_need : (n : Need) → need_of P r.decl fuel r.state ≡ n → EndsSegment (Some n) → IsHeldUp P fuel tasks i r
    by_need (need.TheVariants.Acquire lock) is k = by_lock lock is
    by_need need.TheVariants.Local is k = absurd k
    by_need (need.TheVariants.Load word) is k = absurd k
    by_need (need.TheVariants.Store word whole) is k = absurd k
    by_need (need.TheVariants.Release lock) is k = absurd k
    by_need (need.TheVariants.End by) is k = absurd k

no-next : (o : Option Grant) → is_none o ≡ true → o ≡ None
no-next None e = refl
no-next (Some g) e = absurd (false≢true e)

whole-none : (P : ProgramParts) (fuel : ℕ) (F : Flat) → grants_are_whole P fuel F ≡ true → first_grant P fuel F.tasks F.tasks ≡ None
unfolding next_grant
whole-none P fuel F whole = no-next (first_grant P fuel F.tasks F.tasks) whole

pub run-held_up : (P : ProgramParts) (fuel : ℕ) (gs : List Grant) (F : Flat) → so_far P fuel gs ≡ Some F → grants_are_whole P fuel F ≡ true
    → (i : ℕ) (r : Started) → slice_get F.tasks i ≡ Some r → r.state.end ≡ None → IsHeldUp P fuel F.tasks i r
run-held_up P fuel gs F leads whole i r there initial_flat =
    let is : get_or F.tasks i r ≡ r = get_or_from_slice_get F.tasks i r r there in
    let calm : HasSettled P fuel r = subst (HasSettled P fuel) is ((run-resting P fuel gs F leads).tasks i r (slice_get_within F.tasks i r there)) in
    held-up P fuel F.tasks i r (whole-none P fuel F whole) there initial_flat calm.rest
