-- The tasks of the states that lists of grants lead to: which they are, and that they stand at their places later.
use Rattle.std.proofs.Common.{◌≡◌, ◌≢◌, ℕ, zero, suc, ◌+◌, ◌<◌, Bool, true, false, if◌then◌else◌, List, [], ◌∷◌, ◌++◌, length, map, take, get_or, position, slice_get, slice_set, Option, Some, None, refl, sym, ap, ◌∙◌, subst, arith}
use Rattle.std.specs.List.{All, AllPairs, flat_map, position_or_len}
use Rattle.std.proofs.lemmas.Bool.Decides.{nat_tests}
use Rattle.std.proofs.lemmas.Grind.{flat_map-append}
use Rattle.std.proofs.lemmas.List.{append-nil, map-append, take_more, get_or-map, length-map}
use Rattle.std.proofs.lemmas.List.Elements.{All-nil, All-cons, All-append, All-set, All-weaker}
use Rattle.std.proofs.lemmas.List.Sums.{position_or_len_is}
use Rattle.std.proofs.lemmas.Option.{none-some, same_Some, slice_get_within, slice_get-get_or, get_or_from_slice_get}
use Rattle.dn_base.specs.declared.ids.Grant.{Grant}
use Rattle.dn_base.specs.declared.ids.LockId.{LockId}
use Rattle.dn_base.specs.declared.ids.PhaseId.{PhaseId}
use Rattle.region_table.specs.Program.{ProgramParts, IsProgram, tasks_of}
use Rattle.region_table.specs.declared.declared.TaskDecl.{TaskDecl}
use Rattle.region_table.specs.declared.declared.Phase.{Phase}
use Rattle.rv_core.specs.declared.need.Need.{Need}
use Rattle.rv_core.specs.declared.need.Need as need
use Rattle.rv_core.specs.Step.{advanced}
use Rattle.flat_machine.specs.Step.{Started, At, fresh, wish, in_state, segment}
use Rattle.flat_machine.specs.Phases.{Flat, all_tasks, run_all, begin, settled, initial_flat}
use Rattle.flat_machine.specs.Grants.{is_free, grant_of, grant_by, is_grant, can_take, go_on, with_task, resumed, granted_at, granted, granted_if, grants_from, so_far}
use Rattle.flat_machine.specs.Laws.{AreCoresRising, IsLater, StandsLater, AreLater, HasTasks, HasFront}
use Rattle.flat_machine.proofs.InOrder.{in-order}
use Rattle.flat_machine.proofs.GrantLemmas.{same-grant, grants-none}
use Rattle.flat_machine.proofs.SegmentLaws.{same-later, later-itself, later-more, segment-later}
use Rattle.flat_machine.proofs.SettleLaws.{IsFront, settled-front}
use Rattle.flat_machine.proofs.KeptLaws.{so_far-kept}

-- ---- which tasks have started

segment-decl : (P : ProgramParts) (fuel : ℕ) (s : At) → (segment P fuel s).task.decl ≡ s.task.decl
segment-decl P fuel s = (segment-later P fuel s).decl

run-decls : (P : ProgramParts) (fuel phase : ℕ) (ds : List TaskDecl) (m : List ℕ) → map (λ (r : Started). r.decl) (run_all P fuel phase ds m).tasks ≡ ds
run-decls P fuel phase [] m = refl
run-decls P fuel phase (d ∷ ds) m =
    let s : At = segment P fuel (record { task = fresh phase d; memory = m }) in
    let rest : List TaskDecl = map (λ (r : Started). r.decl) (run_all P fuel phase ds s.memory).tasks in
    ap (λ (x : TaskDecl). x ∷ rest) (segment-decl P fuel (record { task = fresh phase d; memory = m })) ∙ ap (λ (xs : List TaskDecl). d ∷ xs) (run-decls P fuel phase ds s.memory)

run-phases : (P : ProgramParts) (fuel phase : ℕ) (ds : List TaskDecl) (m : List ℕ) → All (λ (r : Started). r.phase.0 ≡ phase) (run_all P fuel phase ds m).tasks
run-phases P fuel phase [] m = All-nil (λ (r : Started). r.phase.0 ≡ phase)
run-phases P fuel phase (d ∷ ds) m =
    let s : At = segment P fuel (record { task = fresh phase d; memory = m }) in
    All-cons (λ (r : Started). r.phase.0 ≡ phase) s.task (run_all P fuel phase ds s.memory).tasks
    (ap (λ (x : PhaseId). x.0) (segment-later P fuel (record { task = fresh phase d; memory = m })).phase) (run-phases P fuel phase ds s.memory)

tasks-more : (phases : List Phase) (k : ℕ) (p : Phase) → slice_get phases k ≡ Some p → tasks_of (take (k + 1) phases) ≡ tasks_of (take k phases) ++ p.tasks
tasks-more phases k p there =
    let is : get_or phases k p ≡ p = get_or_from_slice_get phases k p p there in
    let tasks : Phase → List TaskDecl = λ q. q.tasks in
    let one : flat_map tasks (p ∷ []) ≡ p.tasks = append-nil p.tasks in
    ap tasks_of (take_more phases k p (slice_get_within phases k p there))
    ∙ ap (λ (q : Phase). tasks_of (take k phases ++ q ∷ [])) is
    ∙ flat_map-append tasks (take k phases) (p ∷ [])
    ∙ ap (λ (l : List TaskDecl). tasks_of (take k phases) ++ l) one

begin-tasks : (P : ProgramParts) (fuel : ℕ) (p : Phase) (F : Flat) → slice_get P.phases F.begun ≡ Some p → HasTasks P F → HasTasks P (begin P fuel p F)
unfolding begin
begin-tasks P fuel p F there h =
    let decl : Started → TaskDecl = λ r. r.decl in
    let ran = (run_all P fuel F.begun p.tasks F.memory).tasks in
    let within : F.begun < length P.phases = slice_get_within P.phases F.begun p there in
    let decls : map decl ran ≡ p.tasks = run-decls P fuel F.begun p.tasks F.memory in
    record {
      begun = omega arith;
      all = map-append decl (all_tasks F) ran ∙ ap (λ (l : List TaskDecl). l ++ map decl ran) h.all ∙ ap (λ (l : List TaskDecl). tasks_of (take F.begun P.phases) ++ l) decls
          ∙ sym (tasks-more P.phases F.begun p there);
      none = λ e. absurd (omega arith);
      last = λ k q e at'.
          let same : F.begun ≡ k = omega arith in
          let is : p ≡ q = same_Some p q (sym there ∙ ap (slice_get P.phases) same ∙ at') in
          decls ∙ ap (λ (x : Phase). x.tasks) is;
      here = All-weaker (λ (r : Started). r.phase.0 ≡ F.begun) (λ (r : Started). r.phase.0 + 1 ≡ F.begun + 1) (λ r e. omega arith) ran (run-phases P fuel F.begun p.tasks F.memory);
      before =
          All-append (λ (r : Started). r.phase.0 + 1 < F.begun + 1) F.past F.tasks
          (All-weaker (λ (r : Started). r.phase.0 + 1 < F.begun) (λ (r : Started). r.phase.0 + 1 < F.begun + 1) (λ r e. omega arith) F.past h.before)
          (All-weaker (λ (r : Started). r.phase.0 + 1 ≡ F.begun) (λ (r : Started). r.phase.0 + 1 < F.begun + 1) (λ r e. omega arith) F.tasks h.here);
    }

-- a task is replaced by one with the same declaration
map-same : (ts : List Started) (i : ℕ) (r s : Started) → slice_get ts i ≡ Some r → s.decl ≡ r.decl → map (λ (x : Started). x.decl) (slice_set ts i s) ≡ map (λ (x : Started). x.decl) ts
map-same [] i r s there e = refl
map-same (t ∷ ts) zero r s there e =
    let same : t ≡ r = same_Some t r there in
    ap (λ (d : TaskDecl). d ∷ map (λ (x : Started). x.decl) ts) (e ∙ ap (λ (x : Started). x.decl) (sym same))
map-same (t ∷ ts) (suc i) r s there e = ap (λ (ds : List TaskDecl). t.decl ∷ ds) (map-same ts i r s there e)

-- the task that takes a grant is the same task later
pub go_on-later : (P : ProgramParts) (fuel : ℕ) (r : Started) (m : List ℕ) → IsLater r (go_on P fuel r m).task
go_on-later P fuel r m =
    later-more r (in_state r (advanced P r.state)) (go_on P fuel r m).task (same-later r (in_state r (advanced P r.state)) refl refl refl)
    (segment-later P fuel (record { task = in_state r (advanced P r.state); memory = m }))

-- how many phases have begun when the task's phase is the last of them
here-after : (begun : ℕ) (r s : Started) → IsLater r s → r.phase.0 + 1 ≡ begun → s.phase.0 + 1 ≡ begun
here-after begun r s h e = ap (λ (x : PhaseId). x.0 + 1) h.phase ∙ e

resumed-tasks : (P : ProgramParts) (fuel : ℕ) (F : Flat) (i : ℕ) (r : Started) → slice_get F.tasks i ≡ Some r → HasTasks P F → HasTasks P (with_task F i (go_on P fuel r F.memory))
resumed-tasks P fuel F i r there h =
    let decl : Started → TaskDecl = λ r. r.decl in
    let s : Started = (go_on P fuel r F.memory).task in
    let later = go_on-later P fuel r F.memory in
    let decls : map decl (slice_set F.tasks i s) ≡ map decl F.tasks = map-same F.tasks i r s there later.decl in
    let is : get_or F.tasks i r ≡ r = get_or_from_slice_get F.tasks i r r there in
    let at' : r.phase.0 + 1 ≡ F.begun = ap (λ (x : Started). x.phase.0 + 1) (sym is) ∙ h.here i r (slice_get_within F.tasks i r there) in
    record {
      begun = h.begun;
      all = map-append decl F.past (slice_set F.tasks i s) ∙ ap (λ (l : List TaskDecl). map decl F.past ++ l) decls ∙ sym (map-append decl F.past F.tasks) ∙ h.all;
      none = λ e. absurd (omega arith);
      last = λ k p e at'. decls ∙ h.last k p e at';
      here = All-set (λ (x : Started). x.phase.0 + 1 ≡ F.begun) F.tasks i s (here-after F.begun r s later at') h.here;
      before = h.before;
    }

pub reached-tasks : (P : ProgramParts) (fuel : ℕ) (gs : List Grant) (F : Flat) → so_far P fuel gs ≡ Some F → HasTasks P F
reached-tasks P fuel gs F e =
    so_far-kept P fuel (HasTasks P) (record {
      starts =
          record {
            begun = omega arith;
            all = refl;
            none = λ e. refl;
            last = λ k p e at'. absurd (let z : 0 ≡ k + 1 = e in omega arith);
            here = All-nil (λ (r : Started). r.phase.0 + 1 ≡ 0);
            before = All-nil (λ (r : Started). r.phase.0 + 1 < 0);
          };
      begins = record { keeps = λ p F there done k. begin-tasks P fuel p F there k };
      resumes = λ F g i r there takes k. resumed-tasks P fuel F i r there k;
    }) gs F e

-- ---- the cores of a state's tasks rise

decls-rising : (tasks : List Started) (ds : List TaskDecl) → map (λ (r : Started). r.decl) tasks ≡ ds → AllPairs (λ (a b : TaskDecl). a.core.0 < b.core.0) ds
    → AllPairs (λ (a b : Started). a.decl.core.0 < b.decl.core.0) tasks
decls-rising tasks ds e rising i j d before within =
    let decl : Started → TaskDecl = λ r. r.decl in
    let long : length tasks ≡ length ds = sym (length-map tasks decl) ∙ ap length e in
    let in_i : i < length tasks = omega arith in
    let first : (get_or tasks i d).decl ≡ get_or ds i d.decl = sym (get_or-map decl tasks i d d.decl in_i) ∙ ap (λ (l : List TaskDecl). get_or l i d.decl) e in
    let second : (get_or tasks j d).decl ≡ get_or ds j d.decl = sym (get_or-map decl tasks j d d.decl within) ∙ ap (λ (l : List TaskDecl). get_or l j d.decl) e in
    let in_j : j < length ds = omega arith in
    let less : (get_or ds i d.decl).core.0 < (get_or ds j d.decl).core.0 = rising i j d.decl before in_j in
    subst (λ (x : TaskDecl). x.core.0 < (get_or tasks j d).decl.core.0) (sym first) (subst (λ (x : TaskDecl). (get_or ds i d.decl).core.0 < x.core.0) (sym second) less)

none-pairs : (tasks : List Started) → tasks ≡ [] → AllPairs (λ (a b : Started). a.decl.core.0 < b.decl.core.0) tasks
none-pairs tasks e i j d before within = let z : length tasks ≡ 0 = ap length e in absurd (omega arith)

tasks-rising : (P : ProgramParts) (F : Flat) → AreCoresRising P → HasTasks P F → AllPairs (λ (a b : Started). a.decl.core.0 < b.decl.core.0) F.tasks
tasks-rising P F is h = by_begun F.begun refl
  where
    by_begun : (n : ℕ) → F.begun ≡ n → AllPairs (λ (a b : Started). a.decl.core.0 < b.decl.core.0) F.tasks
    by_begun zero e = none-pairs F.tasks (h.none e)
    by_begun (suc k) e =
        let few = h.begun in
        let within : k < length P.phases = omega arith in
        let default : Phase = record { tasks = [] } in
        let p : Phase = get_or P.phases k default in
        let one : F.begun ≡ k + 1 = omega arith in
        decls-rising F.tasks p.tasks (h.last k p one (slice_get-get_or P.phases k default within)) (is k default within)

pub reached-order : (P : ProgramParts) (fuel : ℕ) (gs : List Grant) (F : Flat) → AreCoresRising P → so_far P fuel gs ≡ Some F → AllPairs (λ (a b : Started). a.decl.core.0 < b.decl.core.0) F.tasks
reached-order P fuel gs F order e = tasks-rising P F order (reached-tasks P fuel gs F e)

-- the same of a program within the limits
pub reached-rising : (P : ProgramParts) (fuel : ℕ) (gs : List Grant) (F : Flat) → IsProgram P → so_far P fuel gs ≡ Some F → AllPairs (λ (a b : Started). a.decl.core.0 < b.decl.core.0) F.tasks
reached-rising P fuel gs F is e = reached-order P fuel gs F (in-order P is) e

-- ---- a grant to a task that waits for a free lock

-- a grant to another core isn't for this task
other-core : (P : ProgramParts) (fuel : ℕ) (tasks : List Started) (g : Grant) (r : Started) → r.decl.core.0 ≢ g.core.0 → can_take P fuel tasks g r ≡ false
other-core P fuel tasks g r apart = by_wish (wish P fuel r)
  where
    refused : (b : Bool) (lock : LockId) → is_grant g (if b then Some (grant_of r lock) else None) ≡ false
    refused false lock = refl
    refused true lock = grind (arith, nat_tests)

    by_wish : (o : Option Need) → is_grant g (grant_by tasks r o) ≡ false
    by_wish None = refl
    by_wish (Some (need.TheVariants.Acquire lock)) = refused (is_free tasks lock.0) lock
    by_wish (Some need.TheVariants.Local) = refl
    by_wish (Some (need.TheVariants.Load word)) = refl
    by_wish (Some (need.TheVariants.Store word whole)) = refl
    by_wish (Some (need.TheVariants.Release lock)) = refl
    by_wish (Some (need.TheVariants.End by)) = refl

takes-own : (P : ProgramParts) (fuel : ℕ) (tasks : List Started) (r : Started) (lock : LockId) → wish P fuel r ≡ Some (need.TheVariants.Acquire lock) → is_free tasks lock.0 ≡ true
    → can_take P fuel tasks (grant_of r lock) r ≡ true
takes-own P fuel tasks r lock wants free =
    let g : Grant = grant_of r lock in
    let choice : Bool → Option Grant = λ b. if b then Some g else None in
    ap (λ (o : Option Need). is_grant g (grant_by tasks r o)) wants ∙ ap (λ b. is_grant g (choice b)) free ∙ same-grant g

place-is : {X : Type 0} (p : X → Bool) (xs : List X) (i : ℕ) → position_or_len p xs ≡ i → i < length xs → position p xs ≡ Some i
place-is p xs i e within = grind (arith, nat_tests)

pub grant-legal : (P : ProgramParts) (fuel : ℕ) (F : Flat) (i : ℕ) (r : Started) (lock : LockId) → AllPairs (λ (a b : Started). a.decl.core.0 < b.decl.core.0) F.tasks → slice_get F.tasks i ≡ Some r
    → wish P fuel r ≡ Some (need.TheVariants.Acquire lock) → is_free F.tasks lock.0 ≡ true
    → granted P fuel (grant_of r lock) F ≡ Some (settled P fuel (with_task F i (go_on P fuel r F.memory)))
unfolding granted
grant-legal P fuel F i r lock rising there wants free =
    let g : Grant = grant_of r lock in
    let takes : Started → Bool = can_take P fuel F.tasks g in
    let within : i < length F.tasks = slice_get_within F.tasks i r there in
    let is : get_or F.tasks i r ≡ r = get_or_from_slice_get F.tasks i r r there in
    let first : position_or_len takes F.tasks ≡ i =
    position_or_len_is takes F.tasks i r (omega arith)
    (λ k before.
    let less : (get_or F.tasks k r).decl.core.0 < r.decl.core.0 = subst (λ (x : Started). (get_or F.tasks k r).decl.core.0 < x.decl.core.0) is (rising k i r before within) in
    other-core P fuel F.tasks g (get_or F.tasks k r) (λ e. omega arith))
    (λ inside. ap takes is ∙ takes-own P fuel F.tasks r lock wants free) in
    ap (granted_at P fuel F) (place-is takes F.tasks i first within) ∙ ap (λ (o : Option Started). Some (settled P fuel (resumed P fuel F i o))) there

-- ---- fronts of lists

pub grants-append : (P : ProgramParts) (fuel : ℕ) (o : Option Flat) (gs hs : List Grant) → grants_from P fuel o (gs ++ hs) ≡ grants_from P fuel (grants_from P fuel o gs) hs
grants-append P fuel o [] hs = refl
grants-append P fuel o (g ∷ gs) hs = grants-append P fuel (granted_if P fuel o g) gs hs

-- ---- the tasks stand at their places later

pub are-itself : (F : Flat) → AreLater F F
are-itself F i r there = record { task = r; there = there; later = later-itself r }

pub are-more : (F G H : Flat) → AreLater F G → AreLater G H → AreLater F H
are-more F G H a b i r there =
    let one = a i r there in
    let two = b i one.task one.there in
    record { task = two.task; there = two.there; later = later-more r one.task two.task one.later two.later }

front-there : (xs ys : List Started) (i : ℕ) (r : Started) → IsFront xs ys → slice_get xs i ≡ Some r → slice_get ys i ≡ Some r
front-there xs ys i r h there =
    ap (λ (l : List Started). slice_get l i) h.is ∙ in_front xs h.more i there
  where
    in_front : (xs more : List Started) (i : ℕ) → slice_get xs i ≡ Some r → slice_get (xs ++ more) i ≡ Some r
    in_front [] more i e = absurd (none-some r e)
    in_front (x ∷ xs) more zero e = e
    in_front (x ∷ xs) more (suc i) e = in_front xs more i e

pub settled-later : (P : ProgramParts) (fuel : ℕ) (F : Flat) → AreLater F (settled P fuel F)
settled-later P fuel F i r there =
    record { task = r; there = front-there (all_tasks F) (all_tasks (settled P fuel F)) i r (settled-front P fuel F) there; later = later-itself r }

set-later : (xs ts : List Started) (k i : ℕ) (r s q : Started) → slice_get ts k ≡ Some r → IsLater r s → slice_get (xs ++ ts) i ≡ Some q → StandsLater (xs ++ slice_set ts k s) i q
set-later [] [] k i r s q there later at' = absurd (none-some r there)
set-later [] (t ∷ ts) zero zero r s q there later at' =
    let same : r ≡ q = sym (same_Some t r there) ∙ same_Some t q at' in
    record { task = s; there = refl; later = subst (λ (x : Started). IsLater x s) same later }
set-later [] (t ∷ ts) zero (suc i) r s q there later at' = record { task = q; there = at'; later = later-itself q }
set-later [] (t ∷ ts) (suc k) zero r s q there later at' = record { task = q; there = at'; later = later-itself q }
set-later [] (t ∷ ts) (suc k) (suc i) r s q there later at' =
    let rest = set-later [] ts k i r s q there later at' in
    record { task = rest.task; there = rest.there; later = rest.later }
set-later (x ∷ xs) ts k zero r s q there later at' = record { task = q; there = at'; later = later-itself q }
set-later (x ∷ xs) ts k (suc i) r s q there later at' =
    let rest = set-later xs ts k i r s q there later at' in
    record { task = rest.task; there = rest.there; later = rest.later }

pub granted-later : (P : ProgramParts) (fuel : ℕ) (g : Grant) (F G : Flat) → granted P fuel g F ≡ Some G → AreLater F G
unfolding granted
granted-later P fuel g F G e = by_place (position (can_take P fuel F.tasks g) F.tasks) e
  where
    taken : (i : ℕ) (o : Option Started) → slice_get F.tasks i ≡ o → AreLater F (resumed P fuel F i o)
    taken i None there = are-itself F
    taken i (Some r) there = λ j q at'. set-later F.past F.tasks i j r (go_on P fuel r F.memory).task q there (go_on-later P fuel r F.memory) at'

    by_place : (o : Option ℕ) → granted_at P fuel F o ≡ Some G → AreLater F G
    by_place None e = absurd (none-some G e)
    by_place (Some i) e =
        let next : Flat = resumed P fuel F i (slice_get F.tasks i) in
        subst (AreLater F) (same_Some (settled P fuel next) G e) (are-more F next (settled P fuel next) (taken i (slice_get F.tasks i) refl) (settled-later P fuel next))

pub grants-later : (P : ProgramParts) (fuel : ℕ) (F : Flat) (gs : List Grant) (G : Flat) → grants_from P fuel (Some F) gs ≡ Some G → AreLater F G
grants-later P fuel F [] G e = subst (AreLater F) (same_Some F G e) (are-itself F)
grants-later P fuel F (g ∷ gs) G e = by_grant (granted P fuel g F) refl e (λ K k. grants-later P fuel K gs G k)
  where
    by_grant : (o : Option Flat) → granted P fuel g F ≡ o → grants_from P fuel o gs ≡ Some G → ((K : Flat) → grants_from P fuel (Some K) gs ≡ Some G → AreLater K G) → AreLater F G
    by_grant None is e rest = absurd (none-some G (sym (grants-none P fuel gs) ∙ e))
    by_grant (Some K) is e rest = are-more F K G (granted-later P fuel g F K is) (rest K e)

-- each front of a list with a value has a value, and the tasks stand at their places later
pub front-has : (P : ProgramParts) (fuel : ℕ) (gs hs : List Grant) (F : Flat) → so_far P fuel (gs ++ hs) ≡ Some F → HasFront P fuel gs hs F
front-has P fuel gs hs F e = by_front (so_far P fuel gs) refl (sym (grants-append P fuel (Some (initial_flat P fuel)) gs hs) ∙ e)
  where
    by_front : (o : Option Flat) → so_far P fuel gs ≡ o → grants_from P fuel o hs ≡ Some F → HasFront P fuel gs hs F
    by_front None is e = absurd (none-some F (sym (grants-none P fuel hs) ∙ e))
    by_front (Some K) is e = record { flat = K; front = is; rest = e; later = grants-later P fuel K hs F e }
