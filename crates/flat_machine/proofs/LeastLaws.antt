-- The work that is left falls at each grant, so that each program has a least list.
use Rattle.std.proofs.Common.{◌≡◌, ℕ, zero, suc, ◌+◌, ◌*◌, ◌<◌, ◌≤◌, Bool, true, List, [], ◌∷◌, length, drop, get_or, position, slice_get, sum_by, Option, Some, None, refl, sym, ap, ◌∙◌, subst, length-append, arith}
use Rattle.std.proofs.lemmas.List.{drop_more}
use Rattle.std.proofs.lemmas.List.Sums.{sum_by-cons, sum_by-set}
use Rattle.std.proofs.lemmas.List.Quantifiers.{position-Some}
use Rattle.std.proofs.lemmas.Option.{none-some, same_Some, slice_get-get_or, slice_get_within, get_or_from_slice_get}
use Rattle.dn_base.specs.declared.ids.Grant.{Grant}
use Rattle.region_table.specs.Program.{ProgramParts, tasks_of}
use Rattle.region_table.specs.declared.declared.TaskDecl.{TaskDecl}
use Rattle.region_table.specs.declared.declared.Phase.{Phase}
use Rattle.rv_core.specs.declared.need.Need.{Need}
use Rattle.rv_core.specs.Need.{need_of}
use Rattle.rv_core.specs.Step.{advanced}
use Rattle.flat_machine.specs.Step.{Started, At, fresh, wish, wish_unless, in_state, segment, room, IsWithin, WantsLock}
use Rattle.flat_machine.specs.Phases.{Flat, run_all, begin, settled, initial_flat, work}
use Rattle.flat_machine.specs.Grants.{can_take, go_on, with_task, resumed, granted_at, granted, next_grant, IsLeastFrom, IsLeast}
use Rattle.flat_machine.proofs.Rest.{more-less, advanced-more}
use Rattle.flat_machine.proofs.GrantLemmas.{can_take-waits, next-legal}
use Rattle.flat_machine.proofs.CauseLemmas.{IsResting, HasSettled, acquire-advances, granted-resting, opened-resting}
use Rattle.flat_machine.proofs.SegmentLaws.{segment-room}
use Rattle.flat_machine.proofs.SettleLaws.{settled-kept}

-- ---- a phase that begins

run-work : (P : ProgramParts) (fuel phase : ℕ) (ds : List TaskDecl) (m : List ℕ) → sum_by (room fuel) (run_all P fuel phase ds m).tasks ≤ length ds * (fuel + 1)
run-work P fuel phase [] m = omega arith
run-work P fuel phase (d ∷ ds) m =
    let s : At = segment P fuel (record { task = fresh phase d; memory = m }) in
    let one = (segment-room P fuel (record { task = fresh phase d; memory = m }) (λ e. omega arith)).room in
    let first : room fuel (fresh phase d) ≡ fuel + 1 = omega arith in
    let sum = sum_by-cons (room fuel) s.task (run_all P fuel phase ds s.memory).tasks in
    omega (arith, run-work P fuel phase ds s.memory)

begin-work : (P : ProgramParts) (fuel : ℕ) (p : Phase) (F : Flat) → slice_get P.phases F.begun ≡ Some p → work P fuel (begin P fuel p F) ≤ work P fuel F
unfolding begin
begin-work P fuel p F there =
    let within = slice_get_within P.phases F.begun p there in
    let is : get_or P.phases F.begun p ≡ p = get_or_from_slice_get P.phases F.begun p p there in
    let behind : List Phase = drop (F.begun + 1) P.phases in
    let left : drop F.begun P.phases ≡ p ∷ behind = drop_more P.phases F.begun p within ∙ ap (λ (q : Phase). q ∷ behind) is in
    let count : length (tasks_of (drop F.begun P.phases)) ≡ length p.tasks + length (tasks_of behind) =
    ap (λ (l : List Phase). length (tasks_of l)) left ∙ length-append p.tasks (tasks_of behind) in
    let all = ap (λ n. n * (fuel + 1)) count in
    omega (arith, run-work P fuel F.begun p.tasks F.memory)

settled-work : (P : ProgramParts) (fuel : ℕ) (F : Flat) → work P fuel (settled P fuel F) ≤ work P fuel F
settled-work P fuel F =
    settled-kept P fuel (λ (G : Flat). work P fuel G ≤ work P fuel F) F
    (record { keeps = λ p G there done k. let one = begin-work P fuel p G there in omega arith }) (omega arith)

-- ---- a grant

go_on-room : (P : ProgramParts) (fuel : ℕ) (r : Started) (m : List ℕ) → WantsLock P fuel r → IsWithin fuel r → room fuel (go_on P fuel r m).task < room fuel r
go_on-room P fuel r m waits within =
    let n : Need = need_of P r.decl fuel r.state in
    let wanted : wish P fuel r ≡ Some n = ap (wish_unless P fuel r) waits.open' in
    let less = more-less fuel r.state (advanced P r.state) waits.open' (within waits.open') (advanced-more P fuel r n (acquire-advances n waits.wants) wanted) in
    let fewer = less.room in
    let after = segment-room P fuel (record { task = in_state r (advanced P r.state); memory = m }) less.within in
    omega (arith, after.room)

resumed-work : (P : ProgramParts) (fuel : ℕ) (F : Flat) (i : ℕ) (r : Started) → slice_get F.tasks i ≡ Some r → WantsLock P fuel r → IsWithin fuel r
    → work P fuel (with_task F i (go_on P fuel r F.memory)) < work P fuel F
resumed-work P fuel F i r there waits within =
    let inside = slice_get_within F.tasks i r there in
    let is : get_or F.tasks i r ≡ r = get_or_from_slice_get F.tasks i r r there in
    let fewer = go_on-room P fuel r F.memory waits within in
    let sum = sum_by-set (room fuel) F.tasks i (go_on P fuel r F.memory).task r inside in
    let old : room fuel (get_or F.tasks i r) ≡ room fuel r = ap (room fuel) is in
    omega arith

-- the place of a task that passes a test is one
nowhere : (p : Started → Bool) (ts : List Started) (i : ℕ) → position p ts ≡ Some i → slice_get ts i ≡ None → ⊥
nowhere p [] i at' none = absurd (cc)
nowhere p (t ∷ ts) i at' none =
    let within = (position-Some p (t ∷ ts) i t at').0 in
    none-some (get_or (t ∷ ts) i t) (sym none ∙ slice_get-get_or (t ∷ ts) i t within)

pub granted-work : (P : ProgramParts) (fuel : ℕ) (g : Grant) (F G : Flat) → IsResting P fuel F → granted P fuel g F ≡ Some G → work P fuel G < work P fuel F
unfolding granted
granted-work P fuel g F G h e = by_place (position (can_take P fuel F.tasks g) F.tasks) refl e
  where
    Falls : Flat → Type 0
    Falls K = work P fuel K < work P fuel F

    taken : (i : ℕ) → position (can_take P fuel F.tasks g) F.tasks ≡ Some i → (o : Option Started) → slice_get F.tasks i ≡ o → Falls (resumed P fuel F i o)
    taken i at' None there = absurd (nowhere (can_take P fuel F.tasks g) F.tasks i at' there)
    taken i at' (Some r) there =
        let is : get_or F.tasks i r ≡ r = get_or_from_slice_get F.tasks i r r there in
        let takes = (position-Some (can_take P fuel F.tasks g) F.tasks i r at').1 in
        let waits = can_take-waits P fuel F.tasks g r (subst (λ (x : Started). can_take P fuel F.tasks g x ≡ true) is takes) in
        let calm : HasSettled P fuel r = subst (HasSettled P fuel) is (h.tasks i r (slice_get_within F.tasks i r there)) in
        resumed-work P fuel F i r there waits calm.steady.within

    by_place : (o : Option ℕ) → position (can_take P fuel F.tasks g) F.tasks ≡ o → granted_at P fuel F o ≡ Some G → Falls G
    by_place None at' e = absurd (none-some G e)
    by_place (Some i) at' e =
        let next : Flat = resumed P fuel F i (slice_get F.tasks i) in
        let less = taken i at' (slice_get F.tasks i) refl in
        let settles = settled-work P fuel next in
        subst Falls (same_Some (settled P fuel next) G e) (omega arith)

-- ---- a least list

-- a list that is the least from here on
pub record HasLeast (P : ProgramParts) (fuel : ℕ) (o : Option Flat) : Type 0 where
  pub grants : List Grant
  pub least : IsLeastFrom P fuel o grants

least-from : (P : ProgramParts) (fuel n : ℕ) (F : Flat) → IsResting P fuel F → work P fuel F < n → HasLeast P fuel (Some F)
least-from P fuel zero F h few = absurd (omega arith)
least-from P fuel (suc n) F h few = by_next (next_grant P fuel F) refl (least-from P fuel n)
  where
    granted-on : (g : Grant) → next_grant P fuel F ≡ Some g → ((K : Flat) → IsResting P fuel K → work P fuel K < n → HasLeast P fuel (Some K)) → (o : Option Flat) → granted P fuel g F ≡ o → HasLeast P fuel (Some F)
    granted-on g next later None is = absurd (next-legal P fuel F g next is)
    granted-on g next later (Some G) is =
        let less = granted-work P fuel g F G h is in
        let rest = later G (granted-resting P fuel g F G h is) (omega arith) in
        record { grants = g ∷ rest.grants; least = (next, subst (λ (o : Option Flat). IsLeastFrom P fuel o rest.grants) (sym is) rest.least) }

    by_next : (o : Option Grant) → next_grant P fuel F ≡ o → ((K : Flat) → IsResting P fuel K → work P fuel K < n → HasLeast P fuel (Some K)) → HasLeast P fuel (Some F)
    by_next None none later = record { grants = []; least = none }
    by_next (Some g) next later = granted-on g next later (granted P fuel g F) refl

-- each program has a least list
pub least-exists : (P : ProgramParts) (fuel : ℕ) → (gs : List Grant) × IsLeast P fuel gs
least-exists P fuel =
    let found = least-from P fuel (suc (work P fuel (initial_flat P fuel))) (initial_flat P fuel) (opened-resting P fuel) (omega arith) in
    (found.grants, found.least)
