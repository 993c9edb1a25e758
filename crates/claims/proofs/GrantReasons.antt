-- A grant is at fault where it isn't legal, and the reason that is given is true.
use Rattle.std.proofs.Common.{◌≡◌, ◌≢◌, ℕ, zero, suc, ◌+◌, ◌-◌, ◌<◌, ◌≤◌, ◌==◌, Bool, true, false, not, cond, if◌then◌else◌, List, [], ◌∷◌, ◌++◌, length, take, drop, get_or, find, nat_eq, position, slice_get, Option, Some, None, is_none, unwrap_or, refl, sym, ap, ◌∙◌, subst, arith}
use Rattle.std.specs.Option.{option_or}
use Rattle.std.specs.List.{All, IsAmong, list_all, position_or_len}
use Rattle.std.proofs.lemmas.Bool.{true≢false, false≢true}
use Rattle.std.proofs.lemmas.Bool.Decides.{nat_tests}
use Rattle.std.proofs.lemmas.List.{take_all, take-append-drop}
use Rattle.std.proofs.lemmas.List.Elements.{All-nil, All-cons}
use Rattle.std.proofs.lemmas.List.Folds.{list_any_none}
use Rattle.std.proofs.lemmas.List.Quantifiers.{position-Some}
use Rattle.std.proofs.lemmas.List.Sums.{fails_before_first}
use Rattle.std.proofs.lemmas.Option.{none-some, same_Some, slice_get_within, get_or_from_slice_get, slice_get_past}
use Rattle.dn_base.specs.declared.ids.Grant.{Grant}
use Rattle.dn_base.specs.declared.ids.LockId.{LockId}
use Rattle.region_table.specs.Program.{ProgramParts}
use Rattle.rv_core.specs.Access.{is_held}
use Rattle.rv_core.specs.Need.{need_of}
use Rattle.rv_core.specs.declared.task.End.{End}
use Rattle.rv_core.specs.declared.need.Need.{Need}
use Rattle.rv_core.specs.declared.need.Need as need
use Rattle.flat_machine.specs.declared.faults.GrantFault as fault
use Rattle.flat_machine.specs.declared.faults.GrantFault.{GrantFault}
use Rattle.flat_machine.specs.declared.ending.FlatEnd.{FlatEnd}
use Rattle.flat_machine.specs.declared.ending.TaskLoads.{TaskLoads}
use Rattle.flat_machine.specs.declared.refused.FlatRun.{FlatRun}
use Rattle.flat_machine.specs.declared.refused.FlatRun.TheVariants.{Whole, Refused}
use Rattle.flat_machine.specs.Step.{Started, wish, wish_unless}
use Rattle.flat_machine.specs.Phases.{Flat, settled, initial_flat}
use Rattle.flat_machine.specs.Grants.{is_free, grant_of, grant_by, grant_for, is_grant, first_grant, can_take, resumed, granted_at, granted, granted_if, grants_from, so_far, next_grant, grants_are_whole}
use Rattle.flat_machine.specs.Refused.{MayNotCome, IsFirstRefused, IsRunBy}
use Rattle.flat_machine.specs.Faults.{has_ended, is_of_core, task_holds, held_fault, wish_fault, task_fault, current_phase, grant_fault, unfinished, next_fault, Stops, StopsFor}
use Rattle.flat_machine.specs.Laws.{EndsSegment}
use Rattle.flat_machine.proofs.CauseLemmas.{all-pass, run-resting}
use Rattle.flat_machine.proofs.GrantLemmas.{grants-illegal, next-legal}
use Rattle.flat_machine.proofs.PhaseLemmas.{some_within}
use Rattle.flat_machine.proofs.ReachedLaws.{grants-append, reached-tasks}
use Rattle.flat_machine.proofs.RefusedLemmas.{comes-to_one}
use Rattle.flat_machine.proofs.RunLemmas.{grants-push, grants-front}
use Rattle.run_report.specs.Answer.{answer_of}
use Rattle.claims.specs.declared.claim.Claim.{Claim}
use Rattle.claims.specs.declared.verdict.Verdict.{Verdict}
use Rattle.claims.specs.declared.verdict.Verdict.TheVariants.{Grants, Tasks}
use Rattle.claims.specs.Differences.{first_difference, is_same_load, is_same_task}
use Rattle.claims.specs.Judge.{load_verdict, task_verdict, tasks_verdict, loads_verdict, line_verdict, answer_verdict, end_verdict, verdict_of, IsVerdict}
use Rattle.claims.specs.declared.diagnosis.Diagnosis.{Diagnosis}
use Rattle.claims.specs.declared.diagnosis.Diagnosis as diagnosis
use Rattle.claims.specs.Diagnosis.{IsDiagnosis}
use Rattle.claims.specs.DiagnosisLaws.{IsIllegalAt, IsLegalNotMaximal, IsTrueReason, IsReasonAt, IsSaidUnfinished}

-- ---- where a list is refused

some-of : {X : Type 0} (o : Option X) → o ≢ None → (x : X) × (o ≡ Some x)
some-of None some = absurd (some refl)
some-of (Some x) some = (x, refl)

is-some : {X : Type 0} (o : Option X) (x : X) → o ≡ Some x → o ≢ None
is-some o x e none = none-some x (sym none ∙ e)

module _ (P : ProgramParts) (fuel : ℕ) (gs : List Grant) where
  -- a list whose front is legal and stops there isn't legal
  stopped-lost : (place : ℕ) (F : Flat) (g : Grant) → so_far P fuel (take place gs) ≡ Some F → slice_get gs place ≡ Some g → granted P fuel g F ≡ None → so_far P fuel gs ≡ None
  stopped-lost place F g front there illegal =
      let within = slice_get_within gs place g there in
      let same : granted P fuel (get_or gs place g) F ≡ None = ap (λ (h : Grant). granted P fuel h F) (get_or_from_slice_get gs place g g there) ∙ illegal in
      ap (so_far P fuel) (sym (take-append-drop place gs))
      ∙ grants-append P fuel (Some (initial_flat P fuel)) (take place gs) (drop place gs)
      ∙ ap (λ (o : Option Flat). grants_from P fuel o (drop place gs)) front
      ∙ grants-illegal P fuel place F gs g within same

  pub refused-illegal : (place : ℕ) → place < length gs → IsFirstRefused P fuel gs place → IsIllegalAt P fuel gs place
  refused-illegal place within h = by_next (slice_get gs place) refl h.refused
    where
      by_next : (o : Option Grant) → slice_get gs place ≡ o → MayNotCome P fuel h.flat o → IsIllegalAt P fuel gs place
      by_next None there none = absurd (let past = some_within gs place there in omega arith)
      by_next (Some g) there none =
          record {
            within = within;
            legal = is-some (so_far P fuel (take place gs)) h.flat h.front;
            illegal =
                grants-front P fuel (Some (initial_flat P fuel)) h.flat gs place g within h.front
                ∙ ap (λ (x : Grant). granted P fuel x h.flat) (get_or_from_slice_get gs place g g there)
                ∙ none;
          }

  -- the machine before a grant that isn't legal, and the grant
  record HasIllegal (place : ℕ) : Type 0 where
    flat : Flat
    front : so_far P fuel (take place gs) ≡ Some flat
    grant : Grant
    there : slice_get gs place ≡ Some grant
    illegal : granted P fuel grant flat ≡ None

  has-illegal : (place : ℕ) → IsIllegalAt P fuel gs place → HasIllegal place
  has-illegal place h =
      let before = some-of (so_far P fuel (take place gs)) h.legal in
      by_next before.0 before.1 (slice_get gs place) refl
    where
      by_next : (F : Flat) → so_far P fuel (take place gs) ≡ Some F → (o : Option Grant) → slice_get gs place ≡ o → HasIllegal place
      by_next F front None there = absurd (let past = some_within gs place there in let w = h.within in omega arith)
      by_next F front (Some g) there =
          record {
            flat = F;
            front = front;
            grant = g;
            there = there;
            illegal =
                ap (λ (x : Grant). granted P fuel x F) (sym (get_or_from_slice_get gs place g g there))
                ∙ sym (grants-front P fuel (Some (initial_flat P fuel)) F gs place g h.within front)
                ∙ h.illegal;
          }

  illegal-stops : (place : ℕ) → HasIllegal place → IsFirstRefused P fuel gs place
  illegal-stops place k =
      let inside = slice_get_within gs place k.grant k.there in
      record { within = omega arith; flat = k.flat; front = k.front; refused = subst (MayNotCome P fuel k.flat) (sym k.there) k.illegal }

  pub illegal-refused : (place : ℕ) → IsIllegalAt P fuel gs place → IsFirstRefused P fuel gs place
  illegal-refused place h = illegal-stops place (has-illegal place h)

  all-taken : take (length gs) gs ≡ gs
  all-taken = take_all (length gs) gs (omega arith)

  past : slice_get gs (length gs) ≡ None
  past = slice_get_past gs (length gs) (omega arith)

  longer-list : (F : Flat) (g : Grant) → so_far P fuel gs ≡ Some F → so_far P fuel (gs ++ g ∷ []) ≡ granted P fuel g F
  longer-list F g leads = grants-push P fuel (Some (initial_flat P fuel)) gs g ∙ ap (λ (o : Option Flat). granted_if P fuel o g) leads

  next-some : (F : Flat) → grants_are_whole P fuel F ≡ false → (g : Grant) × (next_grant P fuel F ≡ Some g)
  next-some F short = by_next (next_grant P fuel F) refl
    where
      by_next : (o : Option Grant) → next_grant P fuel F ≡ o → (g : Grant) × (next_grant P fuel F ≡ Some g)
      by_next None is = absurd (true≢false (sym (ap is_none is) ∙ short))
      by_next (Some g) is = (g, is)

  pub refused-short : IsFirstRefused P fuel gs (length gs) → IsLegalNotMaximal P fuel gs
  refused-short h =
      let leads : so_far P fuel gs ≡ Some h.flat = ap (so_far P fuel) (sym all-taken) ∙ h.front in
      let short : grants_are_whole P fuel h.flat ≡ false = subst (MayNotCome P fuel h.flat) past h.refused in
      let next = next-some h.flat short in
      record {
        legal = is-some (so_far P fuel gs) h.flat leads;
        more = next.0;
        longer = λ none. next-legal P fuel h.flat next.0 next.1 (sym (longer-list h.flat next.0 leads) ∙ none);
      }

  no-first : (tasks rs : List Started) → first_grant P fuel tasks rs ≡ None → All (λ (r : Started). grant_for P fuel tasks r ≡ None) rs
  no-first tasks [] none = All-nil (λ (r : Started). grant_for P fuel tasks r ≡ None)
  no-first tasks (r ∷ rs) none = by_grant (grant_for P fuel tasks r) refl none (no-first tasks rs)
    where
      by_grant : (o : Option Grant) → grant_for P fuel tasks r ≡ o → option_or o (first_grant P fuel tasks rs) ≡ None
          → (first_grant P fuel tasks rs ≡ None → All (λ (x : Started). grant_for P fuel tasks x ≡ None) rs) → All (λ (x : Started). grant_for P fuel tasks x ≡ None) (r ∷ rs)
      by_grant None is rest later = All-cons (λ (x : Started). grant_for P fuel tasks x ≡ None) r rs is (later rest)
      by_grant (Some g) is rest later = absurd (none-some g (sym rest))

  -- where no task can take a grant, no grant is legal
  whole-last : (F : Flat) (g : Grant) → grants_are_whole P fuel F ≡ true → granted P fuel g F ≡ None
  unfolding next_grant granted
  whole-last F g whole = by_place (position (can_take P fuel F.tasks g) F.tasks) refl
    where
      no-next : (o : Option Grant) → is_none o ≡ true → o ≡ None
      no-next None e = refl
      no-next (Some h) e = absurd (false≢true e)

      fails : (r : Started) → grant_for P fuel F.tasks r ≡ None → can_take P fuel F.tasks g r ≡ true → ⊥
      fails r none takes = false≢true (sym (ap (is_grant g) none) ∙ takes)

      by_place : (o : Option ℕ) → position (can_take P fuel F.tasks g) F.tasks ≡ o → granted_at P fuel F o ≡ None
      by_place None at' = refl
      by_place (Some i) at' = absurd (by_tasks F.tasks refl at')
        where
          by_tasks : (ts : List Started) → F.tasks ≡ ts → position (can_take P fuel F.tasks g) F.tasks ≡ Some i → ⊥
          by_tasks [] is here = none-some i (sym (ap (position (can_take P fuel F.tasks g)) is) ∙ here)
          by_tasks (d ∷ ts) is here =
              let found = position-Some (can_take P fuel F.tasks g) F.tasks i d here in
              fails (get_or F.tasks i d) (no-first F.tasks F.tasks (no-next (first_grant P fuel F.tasks F.tasks) whole) i d found.0) found.1

  pub short-refused : IsLegalNotMaximal P fuel gs → IsFirstRefused P fuel gs (length gs)
  short-refused h =
      let last = some-of (so_far P fuel gs) h.legal in
      let legal : granted P fuel h.more last.0 ≢ None = λ none. h.longer (longer-list last.0 h.more last.1 ∙ none) in
      record {
        within = omega arith;
        flat = last.0;
        front = ap (so_far P fuel) all-taken ∙ last.1;
        refused = subst (MayNotCome P fuel last.0) (sym past) (by_whole last.0 legal (grants_are_whole P fuel last.0) refl);
      }
    where
      by_whole : (F : Flat) → granted P fuel h.more F ≢ None → (b : Bool) → grants_are_whole P fuel F ≡ b → grants_are_whole P fuel F ≡ false
      by_whole F legal false is = is
      by_whole F legal true is = absurd (legal (whole-last F h.more is))

-- ---- the verdict of a run that has an end is on no grant

same-grants : (m n : ℕ) → Grants m ≡ Grants n → m ≡ n
same-grants m n is = ap number is
  where
    number : Verdict → ℕ
    number (Grants k) = k
    number _ = m

load-grants : (place : ℕ) (r : TaskLoads) (o : Option ℕ) → load_verdict r o ≡ Some (Grants place) → ⊥
load-grants place r None is = absurd (cc)
load-grants place r (Some k) is = absurd (cc)

task-grants : (place : ℕ) (c r : TaskLoads) → task_verdict c r ≡ Some (Grants place) → ⊥
unfolding task_verdict
task-grants place c r is = load-grants place r (first_difference is_same_load c.loads r.loads) is

either-grants : (place : ℕ) (o p : Option Verdict) → (o ≡ Some (Grants place) → ⊥) → (p ≡ Some (Grants place) → ⊥) → option_or o p ≡ Some (Grants place) → ⊥
either-grants place None p one other is = other is
either-grants place (Some v) p one other is = one is

tasks-grants : (place : ℕ) (cs rs : List TaskLoads) → tasks_verdict cs rs ≡ Some (Grants place) → ⊥
tasks-grants place [] rs is = absurd (cc)
tasks-grants place (c ∷ cs) [] is = absurd (cc)
tasks-grants place (c ∷ cs) (r ∷ rs) is = either-grants place (task_verdict c r) (tasks_verdict cs rs) (task-grants place c r) (tasks-grants place cs rs) is

loads-grants : (place : ℕ) (claimed : Option (List TaskLoads)) (right : List TaskLoads) → loads_verdict claimed right ≡ Some (Grants place) → ⊥
loads-grants place None right is = absurd (cc)
loads-grants place (Some cs) right is = by_tasks (first_difference is_same_task cs right) is
  where
    by_tasks : (o : Option ℕ) → (if is_none o then tasks_verdict cs right else Some Tasks) ≡ Some (Grants place) → ⊥
    by_tasks None is = tasks-grants place cs right is
    by_tasks (Some k) is = absurd (cc)

answer-grants : (place : ℕ) (claimed right : List ℕ) → answer_verdict claimed right ≡ Grants place → ⊥
unfolding answer_verdict
answer-grants place claimed right is = by_place (first_difference nat_eq claimed right) is
  where
    by_place : (o : Option ℕ) → line_verdict right o ≡ Grants place → ⊥
    by_place None is = absurd (cc)
    by_place (Some k) is = absurd (cc)

end-grants : (place : ℕ) (o : Option Verdict) (v : Verdict) → (o ≡ Some (Grants place) → ⊥) → (v ≡ Grants place → ⊥) → unwrap_or o v ≡ Grants place → ⊥
end-grants place None v loads answer is = answer is
end-grants place (Some w) v loads answer is = loads (ap Some is)

no-end : (place : ℕ) (c : Claim) (e : FlatEnd) → end_verdict c e ≡ Grants place → ⊥
unfolding end_verdict
no-end place c e is =
    end-grants place (loads_verdict c.loads e.loads) (answer_verdict c.answer (answer_of e.ending)) (loads-grants place c.loads e.loads)
    (answer-grants place c.answer (answer_of e.ending)) is

-- ---- the verdict

module _ (P : ProgramParts) (c : Claim) where
  pub grants-refused : (place : ℕ) → IsVerdict P c (Grants place) → IsFirstRefused P c.question.fuel c.grants place
  grants-refused place h = by_run h.run h.by h.is
    where
      by_run : (r : FlatRun) → IsRunBy P c.question.fuel c.grants r → Grants place ≡ verdict_of c r → IsFirstRefused P c.question.fuel c.grants place
      by_run (Refused other) by is = subst (IsFirstRefused P c.question.fuel c.grants) (same-grants other place (sym is)) by
      by_run (Whole e) by is = absurd (no-end place c e (sym is))

  pub refused-grants : (place : ℕ) → IsFirstRefused P c.question.fuel c.grants place → IsVerdict P c (Grants place)
  refused-grants place h = record { run = Refused place; by = h; is = refl }

-- ---- where a list stops

-- a list that is refused at a place stops there, in the state before it
record StopsHere (P : ProgramParts) (fuel : ℕ) (gs : List Grant) (place : ℕ) (given : Option GrantFault) : Type 0 where
  flat : Flat
  front : so_far P fuel (take place gs) ≡ Some flat
  is : given ≡ next_fault P fuel flat (slice_get gs place)

module _ (P : ProgramParts) (fuel : ℕ) (gs : List Grant) (given : Option GrantFault) where
  same-place : (m n : ℕ) → IsFirstRefused P fuel gs m → IsFirstRefused P fuel gs n → m ≡ n
  same-place m n h k = same-refused m n (comes-to_one P fuel gs (Refused m) (Refused n) h k)
    where
      same-refused : (a b : ℕ) → Refused a ≡ Refused b → a ≡ b
      same-refused a b is = ap number is
        where
          number : FlatRun → ℕ
          number (Refused k) = k
          number (Whole e) = a

  stops-here : (place : ℕ) → IsFirstRefused P fuel gs place → StopsFor P fuel gs given → StopsHere P fuel gs place given
  stops-here place h s = by_next (slice_get gs s.place) refl s.stops
    where
      moved : s.place ≡ place → StopsHere P fuel gs place given
      moved same =
          subst (λ (n : ℕ). StopsHere P fuel gs n given) same (record { flat = s.flat; front = s.front; is = s.is })

      -- the list is legal up to its end
      whole : length gs ≤ s.place → so_far P fuel gs ≡ Some s.flat
      whole past = ap (so_far P fuel) (sym (take_all s.place gs past)) ∙ s.front

      at-end : length gs ≤ s.place → (o : Option Grant) → slice_get gs place ≡ o → MayNotCome P fuel h.flat o → StopsHere P fuel gs place given
      at-end past (Some g) there illegal =
          absurd (none-some s.flat (sym (stopped-lost P fuel gs place h.flat g h.front there illegal) ∙ whole past))
      at-end past None there illegal =
          let beyond = some_within gs place there in
          record {
            flat = s.flat;
            front = ap (so_far P fuel) (take_all place gs beyond) ∙ whole past;
            is = s.is ∙ ap (next_fault P fuel s.flat) (slice_get_past gs s.place past ∙ sym there);
          }

      by_next : (o : Option Grant) → slice_get gs s.place ≡ o → Stops P fuel s.flat o → StopsHere P fuel gs place given
      by_next (Some g) there illegal =
          let inside = slice_get_within gs s.place g there in
          moved (same-place s.place place (record { within = omega arith; flat = s.flat; front = s.front; refused = subst (MayNotCome P fuel s.flat) (sym there) illegal }) h)
      by_next None there stops = at-end (some_within gs s.place there) (slice_get gs place) refl h.refused

-- ---- what is said of a grant is true

-- what is found passes the test, and where nothing is found nothing does
found-one : (p : Started → Bool) (xs : List Started) (r : Started) → find p xs ≡ Some r → IsAmong xs r × (p r ≡ true)
found-one p [] r e = absurd (none-some r e)
found-one p (x ∷ xs) r e = by_test (p x) refl e (found-one p xs r)
  where
    by_test : (b : Bool) → p x ≡ b → cond b (Some x) (find p xs) ≡ Some r → (find p xs ≡ Some r → IsAmong xs r × (p r ≡ true)) → IsAmong (x ∷ xs) r × (p r ≡ true)
    by_test true is e later = let same = same_Some x r e in ((0, (omega arith, sym same)), ap p (sym same) ∙ is)
    by_test false is e later = let rest = later e in let w = rest.0.1.0 in ((suc rest.0.0, (omega arith, rest.0.1.1)), rest.1)

found-none : (p : Started → Bool) (xs : List Started) → find p xs ≡ None → All (λ (r : Started). p r ≡ false) xs
found-none p [] e = All-nil (λ (r : Started). p r ≡ false)
found-none p (x ∷ xs) e = by_test (p x) refl e (found-none p xs)
  where
    by_test : (b : Bool) → p x ≡ b → cond b (Some x) (find p xs) ≡ None → (find p xs ≡ None → All (λ (r : Started). p r ≡ false) xs) → All (λ (r : Started). p r ≡ false) (x ∷ xs)
    by_test true is e later = absurd (none-some x (sym e))
    by_test false is e later = All-cons (λ (r : Started). p r ≡ false) x xs is (later e)

-- where something passes a test, a place is found
finds : (p : Started → Bool) (xs : List Started) (r : Started) → IsAmong xs r → p r ≡ true → position p xs ≢ None
finds p xs r among passes none =
    let beyond : length xs ≤ position_or_len p xs = grind (arith, nat_tests) in
    let fails : p (get_or xs among.0 r) ≡ false = fails_before_first p xs among.0 r (let w = among.1.0 in omega arith) in
    true≢false (sym passes ∙ ap p among.1.1 ∙ fails)

-- a reason, and that it is true
record HasReason (P : ProgramParts) (fuel : ℕ) (F : Flat) (g : Grant) (given : Option GrantFault) : Type 0 where
  reason : GrantFault
  is : given ≡ Some reason
  true_of : IsTrueReason P fuel F g reason

module _ (P : ProgramParts) (fuel : ℕ) (gs : List Grant) (F : Flat) (g : Grant) (leads : so_far P fuel gs ≡ Some F) (illegal : granted P fuel g F ≡ None) where
  ended-some : (r : Started) → has_ended r ≡ true → r.state.end ≢ None
  ended-some r e none = false≢true (sym (ap (λ (o : Option End). not (is_none o)) none) ∙ e)

  -- a task that waits for the free lock of the grant could take it
  taken : (r : Started) → IsAmong F.tasks r → r.decl.core.0 ≡ g.core.0 → r.phase.0 ≡ g.phase.0 → (lock : LockId) → lock.0 ≡ g.lock.0 → wish P fuel r ≡ Some (need.TheVariants.Acquire lock)
      → is_free F.tasks lock.0 ≡ true → ⊥
  unfolding granted
  taken r among core phase lock same waits free =
      let choice : Bool → Option Grant = λ b. if b then Some (grant_of r lock) else None in
      let itself : is_grant g (Some (grant_of r lock)) ≡ true = grind (arith, nat_tests) in
      let takes : can_take P fuel F.tasks g r ≡ true = ap (λ (o : Option Need). is_grant g (grant_by F.tasks r o)) waits ∙ ap (λ b. is_grant g (choice b)) free ∙ itself in
      by_place (position (can_take P fuel F.tasks g) F.tasks) refl illegal (finds (can_take P fuel F.tasks g) F.tasks r among takes)
    where
      by_place : (o : Option ℕ) → position (can_take P fuel F.tasks g) F.tasks ≡ o → granted_at P fuel F o ≡ None → (position (can_take P fuel F.tasks g) F.tasks ≢ None) → ⊥
      by_place None at' none some = some at'
      by_place (Some i) at' none some = none-some (settled P fuel (resumed P fuel F i (slice_get F.tasks i))) (sym none)

  module _ (r : Started) (among : IsAmong F.tasks r) (core : r.decl.core.0 ≡ g.core.0) (phase : r.phase.0 ≡ g.phase.0) where
    held-reason : (lock : LockId) → lock.0 ≡ g.lock.0 → wish P fuel r ≡ Some (need.TheVariants.Acquire lock) → (o : Option Started) → find (task_holds lock.0) F.tasks ≡ o → HasReason P fuel F g (held_fault o)
    held-reason lock same waits None none =
        let free : is_free F.tasks lock.0 ≡ true = ap not (list_any_none (task_holds lock.0) F.tasks (found-none (task_holds lock.0) F.tasks none)) in
        absurd (taken r among core phase lock same waits free)
    held-reason lock same waits (Some holder) found =
        let one = found-one (task_holds lock.0) F.tasks holder found in
        record {
          reason = fault.TheVariants.Held holder.decl.core;
          is = refl;
          true_of = record { task = holder; among = one.0; on = refl; holds = ap (is_held holder.state.held) (sym same) ∙ one.1 };
        }

    lock-reason : (lock : LockId) → wish P fuel r ≡ Some (need.TheVariants.Acquire lock) → (b : Bool) → (lock.0 == g.lock.0) ≡ b
        → HasReason P fuel F g (if b then held_fault (find (task_holds lock.0) F.tasks) else Some (fault.TheVariants.Waits lock))
    lock-reason lock waits true test = held-reason lock (grind (arith, nat_tests)) waits (find (task_holds lock.0) F.tasks) refl
    lock-reason lock waits false test =
        record { reason = fault.TheVariants.Waits lock; is = refl; true_of = (record { task = r; among = among; on = core; holds = waits }, grind (arith, nat_tests)) }

    rests : EndsSegment (wish P fuel r)
    rests = subst (λ (x : Started). EndsSegment (wish P fuel x)) (sym among.1.1) ((run-resting P fuel gs F leads).tasks among.0 r among.1.0).rest

    wish-reason : (o : Option Need) → wish P fuel r ≡ o → EndsSegment o → HasReason P fuel F g (wish_fault F.tasks g o)
    wish-reason None is rest = record { reason = fault.TheVariants.Ended; is = refl; true_of = record { task = r; among = among; on = core; holds = by_end r.state.end refl is } }
      where
        by_end : (o : Option End) → r.state.end ≡ o → wish_unless P fuel r o ≡ None → r.state.end ≢ None
        by_end None e none = absurd (none-some (need_of P r.decl fuel r.state) (sym none))
        by_end (Some by) e none = is-some r.state.end by e
    wish-reason (Some (need.TheVariants.Acquire lock)) is rest = lock-reason lock is (lock.0 == g.lock.0) refl
    wish-reason (Some need.TheVariants.Local) is rest = absurd rest
    wish-reason (Some (need.TheVariants.Load word)) is rest = absurd rest
    wish-reason (Some (need.TheVariants.Store word whole)) is rest = absurd rest
    wish-reason (Some (need.TheVariants.Release lock)) is rest = absurd rest
    wish-reason (Some (need.TheVariants.End by)) is rest = absurd rest

  here : (r : Started) → IsAmong F.tasks r → r.phase.0 + 1 ≡ F.begun
  here r among = subst (λ (x : Started). x.phase.0 + 1 ≡ F.begun) (sym among.1.1) ((reached-tasks P fuel gs F leads).here among.0 r among.1.0)

  task-reason : g.phase.0 ≡ current_phase F → (o : Option Started) → find (is_of_core g.core.0) F.tasks ≡ o → HasReason P fuel F g (task_fault P fuel F.tasks g o)
  task-reason phase None none =
      record {
        reason = fault.TheVariants.NoTask;
        is = refl;
        true_of = λ k d within. let fails = found-none (is_of_core g.core.0) F.tasks none k d within in grind (arith, nat_tests);
      }
  task-reason phase (Some r) found =
      let one = found-one (is_of_core g.core.0) F.tasks r found in
      let at' = here r one.0 in
      let test = one.1 in
      wish-reason r one.0 (grind (arith, nat_tests)) (omega arith) (wish P fuel r) refl (rests r one.0 (grind (arith, nat_tests)) (omega arith))

  some-begun : list_all has_ended F.tasks ≡ false → current_phase F + 1 ≡ F.begun
  some-begun running = by_begun F.begun refl
    where
      by_begun : (n : ℕ) → F.begun ≡ n → (F.begun - 1) + 1 ≡ F.begun
      by_begun zero is = absurd (true≢false (sym (ap (list_all has_ended) ((reached-tasks P fuel gs F leads).none is)) ∙ running))
      by_begun (suc n) is = omega arith

  phase-reason : list_all has_ended F.tasks ≡ false → (b : Bool) → (g.phase.0 == current_phase F) ≡ b
      → HasReason P fuel F g (if b then task_fault P fuel F.tasks g (find (is_of_core g.core.0) F.tasks) else Some (fault.TheVariants.Phase (record { 0 = current_phase F })))
  phase-reason running true test = task-reason (grind (arith, nat_tests)) (find (is_of_core g.core.0) F.tasks) refl
  phase-reason running false test =
      record { reason = fault.TheVariants.Phase (record { 0 = current_phase F }); is = refl; true_of = (some-begun running, grind (arith, nat_tests)) }

  over-reason : (b : Bool) → list_all has_ended F.tasks ≡ b
      → HasReason P fuel F g
      (if b then Some fault.TheVariants.Over else if g.phase.0 == current_phase F then task_fault P fuel F.tasks g (find (is_of_core g.core.0) F.tasks) else Some (fault.TheVariants.Phase (record { 0 = current_phase F })))
  over-reason true test =
      record { reason = fault.TheVariants.Over; is = refl; true_of = λ k d within. ended-some (get_or F.tasks k d) (all-pass has_ended F.tasks test k d within) }
  over-reason false test = phase-reason test (g.phase.0 == current_phase F) refl

  grant-reason : HasReason P fuel F g (grant_fault P fuel F g)
  grant-reason = over-reason (list_all has_ended F.tasks) refl

-- ---- the diagnosis

pub reason-at : (P : ProgramParts) (fuel : ℕ) (gs : List Grant) (place : ℕ) (given : Option GrantFault) → StopsFor P fuel gs given → IsIllegalAt P fuel gs place → IsReasonAt P fuel gs place given
reason-at P fuel gs place given s h =
    let k = has-illegal P fuel gs place h in
    let stop = stops-here P fuel gs given place (illegal-refused P fuel gs place h) s in
    let flat : stop.flat ≡ k.flat = same_Some stop.flat k.flat (sym stop.front ∙ k.front) in
    let told : given ≡ grant_fault P fuel k.flat k.grant = stop.is ∙ ap (λ (F : Flat). next_fault P fuel F (slice_get gs place)) flat ∙ ap (next_fault P fuel k.flat) k.there in
    let reason = grant-reason P fuel (take place gs) k.flat k.grant k.front k.illegal in
    record { flat = k.flat; leads = k.front; grant = k.grant; there = k.there; reason = reason.reason; is = told ∙ reason.is; true_of = reason.true_of }

pub unfinished-at : (P : ProgramParts) (fuel : ℕ) (gs : List Grant) (given : Option GrantFault) → StopsFor P fuel gs given → IsLegalNotMaximal P fuel gs → IsSaidUnfinished P fuel gs given
unfinished-at P fuel gs given s h =
    let refused = short-refused P fuel gs h in
    let stop = stops-here P fuel gs given (length gs) refused s in
    let leads : so_far P fuel gs ≡ Some stop.flat = ap (so_far P fuel) (sym (all-taken P fuel gs)) ∙ stop.front in
    let flat : refused.flat ≡ stop.flat = same_Some refused.flat stop.flat (sym refused.front ∙ stop.front) in
    let short : grants_are_whole P fuel stop.flat ≡ false = subst (λ (F : Flat). grants_are_whole P fuel F ≡ false) flat (subst (MayNotCome P fuel refused.flat) (past P fuel gs) refused.refused) in
    let next = next-some P fuel gs stop.flat short in
    record {
      core = next.0.core;
      lock = next.0.lock;
      is = stop.is ∙ ap (next_fault P fuel stop.flat) (past P fuel gs) ∙ ap unfinished next.1;
      more = next.0;
      to = refl;
      of = refl;
      longer = λ none. next-legal P fuel stop.flat next.0 next.1 (sym (longer-list P fuel gs stop.flat next.0 leads) ∙ none);
    }

same-fault : (f g : Option GrantFault) → diagnosis.TheVariants.Grants f ≡ diagnosis.TheVariants.Grants g → f ≡ g
same-fault f g is = ap part is
  where
    part : Diagnosis → Option GrantFault
    part (diagnosis.TheVariants.Grants x) = x
    part _ = f

pub told-illegal : (P : ProgramParts) (c : Claim) (place : ℕ) (given : Option GrantFault) → IsDiagnosis P c (Grants place) (diagnosis.TheVariants.Grants given)
    → IsIllegalAt P c.question.fuel c.grants place → IsReasonAt P c.question.fuel c.grants place given
told-illegal P c place given d h =
    reason-at P c.question.fuel c.grants place given (subst (StopsFor P c.question.fuel c.grants) (same-fault d.fault given (sym d.is)) d.stops) h

pub told-short : (P : ProgramParts) (c : Claim) (place : ℕ) (given : Option GrantFault) → IsDiagnosis P c (Grants place) (diagnosis.TheVariants.Grants given)
    → IsLegalNotMaximal P c.question.fuel c.grants → IsSaidUnfinished P c.question.fuel c.grants given
told-short P c place given d h =
    unfinished-at P c.question.fuel c.grants given (subst (StopsFor P c.question.fuel c.grants) (same-fault d.fault given (sym d.is)) d.stops) h
