-- Where tasks take locks in an order, the wanted locks would rise without end if a task waited.
use Rattle.std.proofs.Common.{◌≡◌, ◌≢◌, ℕ, zero, suc, ◌+◌, ◌<◌, ◌≤◌, nat_lt, Bool, true, false, List, length, get_or, slice_get, Option, Some, None, is_none, refl, sym, ap, ◌∙◌, subst, arith}
use Rattle.std.specs.List.{All}
use Rattle.std.proofs.lemmas.Bool.Decides.{nat_tests}
use Rattle.std.proofs.lemmas.Option.{slice_get-get_or, slice_get_within, get_or_from_slice_get}
use Rattle.dn_base.specs.declared.ids.Grant.{Grant}
use Rattle.dn_base.specs.declared.ids.LockId.{LockId}
use Rattle.dn_base.specs.declared.status.Outcome as outcome
use Rattle.region_table.specs.Program.{ProgramParts}
use Rattle.rv_core.specs.declared.task.End.{End}
use Rattle.rv_core.specs.declared.need.Need as need
use Rattle.rv_core.specs.declared.ending.TaskEnd.{TaskEnd}
use Rattle.rv_core.specs.Access.{is_held}
use Rattle.rv_core.specs.Ending.{is_waiting}
use Rattle.rv_core.specs.Need.{need_of}
use Rattle.rv_core.proofs.Completions.{acquire-allowed}
use Rattle.rv_core.proofs.HeldLemmas.{holds-none}
use Rattle.flat_machine.specs.declared.ending.FlatEnd.{FlatEnd}
use Rattle.flat_machine.specs.Step.{Started, wish, wish_unless}
use Rattle.flat_machine.specs.Phases.{Flat}
use Rattle.flat_machine.specs.Grants.{so_far, grants_are_whole}
use Rattle.flat_machine.specs.Ending.{flat_end}
use Rattle.flat_machine.specs.Laws.{IsHeldUp}
use Rattle.flat_machine.specs.LockOrder.{TakesInOrder, IsLockOrder}
use Rattle.flat_machine.proofs.Rights.{both-ways}
use Rattle.flat_machine.proofs.ReachedLaws.{reached-tasks}
use Rattle.flat_machine.proofs.CauseLemmas.{run-resting, run-held_up, run-ended, run-stuck, all-shown}

-- the ranks of the first n locks together
abbrev total : (ℕ → ℕ) → ℕ → ℕ
total rank zero = 0
total rank (suc n) = rank n + total rank n

rank-within : (rank : ℕ → ℕ) (n lock : ℕ) → lock < n → rank lock ≤ total rank n
rank-within rank zero lock within = absurd (omega (arith, within))
rank-within rank (suc n) lock within = by_test (nat_lt lock n) refl (rank-within rank n lock) where
  by_test : (b : Bool) → nat_lt lock n ≡ b → (lock < n → rank lock ≤ total rank n) → rank lock ≤ rank n + total rank n
  by_test true is below =
      let less : lock < n = grind (arith, nat_tests, is) in
      let rest = below less in
      omega (arith, rest)
  by_test false is below =
      let same : lock ≡ n = grind (arith, nat_tests, is, within) in
      let here = ap rank same in
      omega (arith, here)

-- the tasks of the current phase take their locks in order
abbrev AreOrdered : ProgramParts → ℕ → (ℕ → ℕ) → List Started → Type 0
AreOrdered P fuel rank tasks = (i : ℕ) (r : Started) → slice_get tasks i ≡ Some r → TakesInOrder P fuel rank r

acquire-same : (a b : LockId) → need.TheVariants.Acquire a ≡ need.TheVariants.Acquire b → a ≡ b
acquire-same a b e = cc

-- a task that waits for a lock of a high rank waits for a task that waits for one of a higher rank
climbs : (P : ProgramParts) (fuel : ℕ) (gs : List Grant) (F : Flat) (rank : ℕ → ℕ) → so_far P fuel gs ≡ Some F → grants_are_whole P fuel F ≡ true → AreOrdered P fuel rank F.tasks
    → (k i : ℕ) (r : Started) (lock : LockId) → slice_get F.tasks i ≡ Some r → r.state.end ≡ None → need_of P r.decl fuel r.state ≡ need.TheVariants.Acquire lock
    → total rank (length P.locks) < rank lock.0 + k → ⊥
climbs P fuel gs F rank leads whole order zero i r lock there going wants high =
    let most = rank-within rank (length P.locks) lock.0 (acquire-allowed P r.decl fuel r.state lock wants).0 in
    absurd (omega (arith, high, most))
climbs P fuel gs F rank leads whole order (suc k) i r lock there going wants high = by_end up.holder.state.end refl (climbs P fuel gs F rank leads whole order k up.place up.holder) where
  up : IsHeldUp P fuel F.tasks i r
  up = run-held_up P fuel gs F leads whole i r there going

  same : up.lock ≡ lock
  same = acquire-same up.lock lock (sym up.wants ∙ wants)

  by_end : (o : Option End) → up.holder.state.end ≡ o
      → ((next : LockId) → slice_get F.tasks up.place ≡ Some up.holder → up.holder.state.end ≡ None → need_of P up.holder.decl fuel up.holder.state ≡ need.TheVariants.Acquire next
      → total rank (length P.locks) < rank next.0 + k → ⊥) → ⊥
  by_end (Some by) is on =
      let none = (order up.place up.holder up.there).gives_up by is in
      both-ways (is_held 0 up.lock.0) (holds-none up.lock.0) (sym (ap (λ (h : ℕ). is_held h up.lock.0) none) ∙ up.holding)
  by_end None is on =
      let next = run-held_up P fuel gs F leads whole up.place up.holder up.there is in
      let wanted : wish P fuel up.holder ≡ Some (need.TheVariants.Acquire next.lock) = ap (wish_unless P fuel up.holder) is ∙ ap Some next.wants in
      let rises = (order up.place up.holder up.there).rises next.lock up.lock.0 wanted up.holding in
      let here = ap (λ (l : LockId). rank l.0) same in
      on next.lock up.there is next.wants (omega (arith, high, rises, here))

all-there : (Q : Started → Type 0) (tasks : List Started) → All Q tasks → (i : ℕ) (r : Started) → slice_get tasks i ≡ Some r → Q r
all-there Q tasks all i r there = subst Q (get_or_from_slice_get tasks i r r there) (all i r (slice_get_within tasks i r there))

-- after a whole list each task of the last phase has ended
all-ended : (P : ProgramParts) (fuel : ℕ) (rank : ℕ → ℕ → ℕ) (gs : List Grant) (F : Flat) → IsLockOrder P fuel rank → so_far P fuel gs ≡ Some F → grants_are_whole P fuel F ≡ true
    → All (λ (r : Started). is_none r.state.end ≡ false) F.tasks
all-ended P fuel rank gs F order leads whole k d within = by_end r.state.end refl where
  r : Started
  r = get_or F.tasks k d

  there : slice_get F.tasks k ≡ Some r
  there = slice_get-get_or F.tasks k d within

  phase : (s : Started) (i : ℕ) → slice_get F.tasks i ≡ Some s → s.phase.0 ≡ r.phase.0
  phase s i at' =
      let here = all-there (λ (x : Started). x.phase.0 + 1 ≡ F.begun) F.tasks (reached-tasks P fuel gs F leads).here in
      let mine = here k r there in
      let other = here i s at' in
      omega (arith, mine, other)

  ordered : AreOrdered P fuel (rank r.phase.0) F.tasks
  ordered i s at' =
      subst (λ (q : ℕ). TakesInOrder P fuel (rank q) s) (phase s i at') (all-there (λ (x : Started). TakesInOrder P fuel (rank x.phase.0) x) F.tasks (order gs F leads) i s at')

  by_end : (o : Option End) → r.state.end ≡ o → is_none o ≡ false
  by_end (Some by) is = refl
  by_end None is =
      let up = run-held_up P fuel gs F leads whole k r there is in
      absurd (climbs P fuel gs F (rank r.phase.0) leads whole ordered (suc (total (rank r.phase.0) (length P.locks))) k r up.lock there is up.wants (omega arith))

pub ordered-waits : (P : ProgramParts) (fuel : ℕ) (rank : ℕ → ℕ → ℕ) (gs : List Grant) (e : FlatEnd) → IsLockOrder P fuel rank → flat_end P fuel gs ≡ Some e
    → All (λ (t : TaskEnd). is_waiting t.end ≡ false) e.ending.tasks
ordered-waits P fuel rank gs e order ends =
    let h = run-ended P fuel gs e ends in
    subst (All (λ (t : TaskEnd). is_waiting t.end ≡ false)) (sym h.tasks)
    (all-shown P fuel h.last (run-resting P fuel gs h.last h.leads) (all-ended P fuel rank gs h.last order h.leads h.whole))

pub ordered-unstuck : (P : ProgramParts) (fuel : ℕ) (rank : ℕ → ℕ → ℕ) (gs : List Grant) (e : FlatEnd) → IsLockOrder P fuel rank → flat_end P fuel gs ≡ Some e
    → e.ending.outcome ≢ outcome.TheVariants.Stuck
ordered-unstuck P fuel rank gs e order ends stuck =
    let one = run-stuck P fuel gs e ends stuck in
    let none = ordered-waits P fuel rank gs e order ends one.0 one.1 one.2 in
    both-ways (is_waiting one.1.end) (subst (λ (t : TaskEnd). is_waiting t.end ≡ false) one.3 none) one.4
