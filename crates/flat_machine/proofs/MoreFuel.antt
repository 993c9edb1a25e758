-- A run in which no task runs out of fuel is the same with more fuel.
use Rattle.std.proofs.Common.{◌≡◌, ◌≢◌, ℕ, zero, suc, ◌+◌, ◌<◌, ◌≤◌, ◌==◌, nat_lt, not, Bool, true, false, cond, if◌then◌else◌, List, [], ◌∷◌, ◌++◌, length, drop, get_or, map, position, slice_get, Option, Some, None, is_none, refl, sym, ap, ◌∙◌, subst, arith}
use Rattle.std.specs.Option.{option_or}
use Rattle.std.specs.List.{All, list_all, list_any, position_or_len}
use Rattle.std.proofs.lemmas.Bool.{true≢false, false≢true}
use Rattle.std.proofs.lemmas.Bool.Decides.{nat_tests}
use Rattle.std.proofs.lemmas.List.Quantifiers.{position-Some}
use Rattle.std.proofs.lemmas.List.{get_or-set_same, get_or-set_other, length-set}
use Rattle.std.proofs.lemmas.List.Elements.{All-nil, All-cons, All-tail, All-append, All-weaker}
use Rattle.std.proofs.lemmas.Option.{none-some, same_Some, slice_get_within, get_or_from_slice_get}
use Rattle.dn_base.specs.declared.ids.Grant.{Grant}
use Rattle.dn_base.specs.declared.status.Outcome as outcome
use Rattle.region_table.specs.Program.{ProgramParts}
use Rattle.region_table.specs.declared.declared.TaskDecl.{TaskDecl}
use Rattle.region_table.specs.declared.declared.Phase.{Phase}
use Rattle.rv_core.specs.declared.task.TaskState.{TaskState}
use Rattle.rv_core.specs.declared.task.End.{End}
use Rattle.rv_core.specs.declared.task.End as cause
use Rattle.rv_core.specs.declared.need.Need.{Need}
use Rattle.rv_core.specs.declared.need.Need as need
use Rattle.rv_core.specs.declared.ending.EndShown.{EndShown}
use Rattle.rv_core.specs.declared.ending.TaskEnd.{TaskEnd}
use Rattle.rv_core.specs.Address.{code_at}
use Rattle.rv_core.specs.Ending.{is_waiting, is_trapped, is_spent, outcome_of, ending_of}
use Rattle.rv_core.specs.Kinds.{EndsByFuel}
use Rattle.rv_core.specs.Need.{need_of, fetch_need}
use Rattle.rv_core.specs.Step.{advanced}
use Rattle.rv_core.proofs.Completions.{stopped-end}
use Rattle.rv_core.proofs.Needs.{need-fuel}
use Rattle.flat_machine.specs.declared.ending.FlatEnd.{FlatEnd}
use Rattle.flat_machine.specs.Step.{Started, At, fresh, wish, wish_unless, in_state, step_by, flat_step, flat_steps, segment, IsWithin, WantsLock}
use Rattle.flat_machine.specs.Phases.{Flat, ran_first, run_all, begin_with, begin, finished_by, has_finished, settle, settled, initial, initial_flat}
use Rattle.flat_machine.specs.Grants.{grant_by, grant_for, is_grant, can_take, go_on, with_task, resumed, granted_at, granted, grants_from, so_far, first_grant, next_grant, grants_are_whole}
use Rattle.flat_machine.specs.Ending.{wait_shown, shown_of, task_end, flat_loads_of, flat_end_of, flat_end}
use Rattle.flat_machine.specs.Laws.{EndsSegment}
use Rattle.flat_machine.proofs.Rest.{rest-still, segment-rest, segment-step}
use Rattle.flat_machine.proofs.StepLemmas.{steps-still}
use Rattle.flat_machine.proofs.PhaseLemmas.{some_within}
use Rattle.flat_machine.proofs.SegmentLaws.{segment-still}
use Rattle.flat_machine.proofs.GrantLemmas.{place-waits, grants-none}
use Rattle.flat_machine.proofs.CauseLemmas.{IsSteady, HasSettled, IsResting, fresh-steady, segment-steady, all-pass, step-within, none-passes, picked, opened-resting, granted-resting, run-resting, run-ended, whole-ends, acquired-steady}

-- the task hasn't ended for want of fuel
abbrev Unspent : Started → Type 0
Unspent r = r.state.end ≡ Some cause.TheVariants.Fuel → ⊥

-- ---- what a task needs

-- with fuel left, a need doesn't depend on the fuel
fuelled-need : (P : ProgramParts) (d : TaskDecl) (fuel : ℕ) (t : TaskState) → (t.retired ≡ fuel → ⊥) → need_of P d fuel t ≡ fetch_need P d t (code_at P.code t.pc)
unfolding need_of
fuelled-need P d fuel t left = by_test (t.retired == fuel) refl where
  by_test : (b : Bool) → (t.retired == fuel) ≡ b → cond b (need.TheVariants.End cause.TheVariants.Fuel) (fetch_need P d t (code_at P.code t.pc)) ≡ fetch_need P d t (code_at P.code t.pc)
  by_test true e = let same : t.retired ≡ fuel = grind (arith, nat_tests, e) in absurd (left same)
  by_test false e = refl

-- the task has ended, or has fuel left
abbrev HasLeft : ℕ → Started → Type 0
HasLeft fuel r = r.state.end ≡ None → r.state.retired < fuel

need-same : (P : ProgramParts) (fuel more : ℕ) (r : Started) → fuel ≤ more → r.state.retired < fuel → need_of P r.decl more r.state ≡ need_of P r.decl fuel r.state
need-same P fuel more r most left =
    fuelled-need P r.decl more r.state (λ e. omega (arith, e, most, left)) ∙ sym (fuelled-need P r.decl fuel r.state (λ e. omega (arith, e, left)))

wish-same : (P : ProgramParts) (fuel more : ℕ) (r : Started) → fuel ≤ more → HasLeft fuel r → wish P more r ≡ wish P fuel r
wish-same P fuel more r most left = by_end r.state.end refl where
  by_end : (o : Option End) → r.state.end ≡ o → wish_unless P more r o ≡ wish_unless P fuel r o
  by_end None is = ap Some (need-same P fuel more r most (left is))
  by_end (Some by) is = refl

-- a task at rest has ended, or has fuel left
rests-left : (P : ProgramParts) (fuel : ℕ) (r : Started) → IsWithin fuel r → EndsSegment (wish P fuel r) → HasLeft fuel r
rests-left P fuel r within rest going =
    let n : Need = need_of P r.decl fuel r.state in
    let wanted : EndsSegment (Some n) = subst EndsSegment (ap (wish_unless P fuel r) going) rest in
    let apart : r.state.retired ≡ fuel → ⊥ = λ e. by_need n wanted ((need-fuel P r.decl fuel r.state).1 e) in
    let most = within going in
    grind (arith, apart, most)
  where
    by_need : (n : Need) → EndsSegment (Some n) → EndsByFuel n → ⊥
    by_need (need.TheVariants.End by) rest ends = absurd rest
    by_need need.TheVariants.Local rest ends = absurd ends
    by_need (need.TheVariants.Load word) rest ends = absurd ends
    by_need (need.TheVariants.Store word whole) rest ends = absurd ends
    by_need (need.TheVariants.Acquire lock) rest ends = absurd ends
    by_need (need.TheVariants.Release lock) rest ends = absurd ends

-- ---- segments

-- a task that is out of fuel ends so, and stays so
ends-spent : (P : ProgramParts) (fuel n : ℕ) (s : At) → s.task.state.end ≡ None → s.task.state.retired ≡ fuel → (flat_steps P fuel (suc n) s).task.state.end ≡ Some cause.TheVariants.Fuel
ends-spent P fuel n s going spent =
    ap (λ (x : At). x.task.state.end) (steps-still P fuel n (flat_step P fuel s) (rest-still P fuel (flat_step P fuel s) rest)) ∙ ended
  where
    by_need : (x : Need) → EndsByFuel x → x ≡ need.TheVariants.End cause.TheVariants.Fuel
    by_need (need.TheVariants.End cause.TheVariants.Fuel) ends = refl
    by_need (need.TheVariants.End cause.TheVariants.Finished) ends = absurd ends
    by_need (need.TheVariants.End (cause.TheVariants.Trap kind pc value)) ends = absurd ends
    by_need need.TheVariants.Local ends = absurd ends
    by_need (need.TheVariants.Load word) ends = absurd ends
    by_need (need.TheVariants.Store word whole) ends = absurd ends
    by_need (need.TheVariants.Acquire lock) ends = absurd ends
    by_need (need.TheVariants.Release lock) ends = absurd ends

    wants : wish P fuel s.task ≡ Some (need.TheVariants.End cause.TheVariants.Fuel)
    wants = ap (wish_unless P fuel s.task) going ∙ ap Some (by_need (need_of P s.task.decl fuel s.task.state) ((need-fuel P s.task.decl fuel s.task.state).1 spent))

    ended : (flat_step P fuel s).task.state.end ≡ Some cause.TheVariants.Fuel
    ended = ap (λ (o : Option Need). (step_by P s o).task.state.end) wants ∙ stopped-end cause.TheVariants.Fuel s.task.state

    rest : EndsSegment (wish P fuel (flat_step P fuel s).task)
    rest = subst EndsSegment (sym (ap (wish_unless P fuel (flat_step P fuel s).task) ended)) tt

steps-same : (P : ProgramParts) (fuel more n : ℕ) (s : At) → fuel ≤ more → IsWithin fuel s.task → Unspent (flat_steps P fuel n s).task → flat_steps P more n s ≡ flat_steps P fuel n s
steps-same P fuel more zero s most within unspent = refl
steps-same P fuel more (suc n) s most within unspent =
    let apart : s.task.state.end ≡ None → s.task.state.retired ≡ fuel → ⊥ = λ going spent. unspent (ends-spent P fuel n s going spent) in
    let left : HasLeft fuel s.task = λ going. (let less = within going in let other = apart going in grind (arith, less, other)) in
    let one : flat_step P more s ≡ flat_step P fuel s = ap (step_by P s) (wish-same P fuel more s.task most left) in
    ap (flat_steps P more n) one ∙ steps-same P fuel more n (flat_step P fuel s) most (step-within P fuel s within) unspent

-- a segment is that of its task any number of steps later
segment-steps : (P : ProgramParts) (fuel n : ℕ) (s : At) → IsWithin fuel s.task → segment P fuel (flat_steps P fuel n s) ≡ segment P fuel s
segment-steps P fuel zero s within = refl
segment-steps P fuel (suc n) s within = segment-steps P fuel n (flat_step P fuel s) (step-within P fuel s within) ∙ segment-step P fuel s within

-- a segment is its steps
segment-is : (P : ProgramParts) (fuel : ℕ) (s : At) → flat_steps P fuel (suc fuel) s ≡ segment P fuel s
unfolding segment
segment-is P fuel s = refl

segment-same : (P : ProgramParts) (fuel more : ℕ) (s : At) → fuel ≤ more → IsSteady fuel s.task → Unspent (segment P fuel s).task → segment P more s ≡ segment P fuel s
segment-same P fuel more s most steady unspent =
    sym (segment-steps P more (suc fuel) s (λ going. omega (arith, most, steady.within going))) ∙ (ap (segment P more) same ∙ segment-still P more (segment P fuel s) rest)
  where
    same : flat_steps P more (suc fuel) s ≡ segment P fuel s
    same = steps-same P fuel more (suc fuel) s most steady.within (subst (λ (x : At). Unspent x.task) (sym (segment-is P fuel s)) unspent) ∙ segment-is P fuel s

    left : HasLeft fuel (segment P fuel s).task
    left = rests-left P fuel (segment P fuel s).task (segment-steady P fuel s steady).within (segment-rest P fuel s steady.within)

    rest : EndsSegment (wish P more (segment P fuel s).task)
    rest = subst EndsSegment (sym (wish-same P fuel more (segment P fuel s).task most left)) (segment-rest P fuel s steady.within)

-- ---- phases

all-first : {X : Type 0} (Q : X → Type 0) (x : X) (xs : List X) → All Q (x ∷ xs) → Q x
all-first Q x xs all = all 0 x (omega arith)

run_all-same : (P : ProgramParts) (fuel more phase : ℕ) (ds : List TaskDecl) (m : List ℕ) → fuel ≤ more → All Unspent (run_all P fuel phase ds m).tasks → run_all P more phase ds m ≡ run_all P fuel phase ds m
run_all-same P fuel more phase [] m most unspent = refl
run_all-same P fuel more phase (d ∷ ds) m most unspent =
    let s : At = record { task = fresh phase d; memory = m } in
    let t : At = segment P fuel s in
    let one : segment P more s ≡ t = segment-same P fuel more s most (fresh-steady fuel phase d) (all-first Unspent t.task (run_all P fuel phase ds t.memory).tasks unspent) in
    let rest = run_all-same P fuel more phase ds t.memory most (All-tail Unspent t.task (run_all P fuel phase ds t.memory).tasks unspent) in
    ap (λ (x : At). ran_first x.task (run_all P more phase ds x.memory)) one ∙ ap (ran_first t.task) rest

begin-same : (P : ProgramParts) (fuel more : ℕ) (p : Phase) (F : Flat) → fuel ≤ more → All Unspent (begin P fuel p F).tasks → begin P more p F ≡ begin P fuel p F
unfolding begin
begin-same P fuel more p F most unspent = ap (begin_with F) (run_all-same P fuel more F.begun p.tasks F.memory most unspent)

finished-unspent : (r : Started) → has_finished r ≡ true → Unspent r
finished-unspent r done spent = false≢true (sym (ap finished_by spent) ∙ done)

-- no task was out of fuel before, if none is once all phases have begun that may
unspent-before : (P : ProgramParts) (fuel : ℕ) (left : List Phase) (F : Flat) → All Unspent (settle P fuel left F).tasks → All Unspent F.tasks
unspent-before P fuel [] F unspent = unspent
unspent-before P fuel (p ∷ left) F unspent = by_test (list_all has_finished F.tasks) refl unspent where
  by_test : (b : Bool) → list_all has_finished F.tasks ≡ b → All Unspent (if b then settle P fuel left (begin P fuel p F) else F).tasks → All Unspent F.tasks
  by_test true done unspent = All-weaker (λ (r : Started). has_finished r ≡ true) Unspent finished-unspent F.tasks (all-pass has_finished F.tasks done)
  by_test false done unspent = unspent

settle-same : (P : ProgramParts) (fuel more : ℕ) (left : List Phase) (F : Flat) → fuel ≤ more → All Unspent (settle P fuel left F).tasks → settle P more left F ≡ settle P fuel left F
settle-same P fuel more [] F most unspent = refl
settle-same P fuel more (p ∷ left) F most unspent =
    by_test (list_all has_finished F.tasks) unspent
    (λ (later : All Unspent (settle P fuel left (begin P fuel p F)).tasks).
    ap (settle P more left) (begin-same P fuel more p F most (unspent-before P fuel left (begin P fuel p F) later)) ∙ settle-same P fuel more left (begin P fuel p F) most later)
  where
    by_test : (b : Bool) → All Unspent (if b then settle P fuel left (begin P fuel p F) else F).tasks
        → (All Unspent (settle P fuel left (begin P fuel p F)).tasks → settle P more left (begin P more p F) ≡ settle P fuel left (begin P fuel p F))
        → (if b then settle P more left (begin P more p F) else F) ≡ (if b then settle P fuel left (begin P fuel p F) else F)
    by_test true unspent rest = rest unspent
    by_test false unspent rest = refl

settled-same : (P : ProgramParts) (fuel more : ℕ) (F : Flat) → fuel ≤ more → All Unspent (settled P fuel F).tasks → settled P more F ≡ settled P fuel F
settled-same P fuel more F most unspent = settle-same P fuel more (drop F.begun P.phases) F most unspent

-- ---- who can take a grant

settled-wish : (P : ProgramParts) (fuel more : ℕ) (r : Started) → fuel ≤ more → HasSettled P fuel r → wish P more r ≡ wish P fuel r
settled-wish P fuel more r most h = wish-same P fuel more r most (rests-left P fuel r h.steady.within h.rest)

prefix-same : (p q : Started → Bool) (xs : List Started) → All (λ (r : Started). p r ≡ q r) xs → position_or_len p xs ≡ position_or_len q xs
prefix-same p q [] same = refl
prefix-same p q (x ∷ xs) same =
    let one = all-first (λ (r : Started). p r ≡ q r) x xs same in
    let rest = prefix-same p q xs (All-tail (λ (r : Started). p r ≡ q r) x xs same) in
    ap (λ (b : Bool). cond (not b) (1 + position_or_len p xs) 0) one ∙ ap (λ (n : ℕ). cond (not (q x)) (1 + n) 0) rest

takes-same : (P : ProgramParts) (fuel more : ℕ) (F : Flat) (g : Grant) → fuel ≤ more → IsResting P fuel F → position (can_take P more F.tasks g) F.tasks ≡ position (can_take P fuel F.tasks g) F.tasks
takes-same P fuel more F g most h =
    ap (λ (n : ℕ). cond (nat_lt n (length F.tasks)) (Some n) None)
    (prefix-same (can_take P more F.tasks g) (can_take P fuel F.tasks g) F.tasks
    (All-weaker (HasSettled P fuel) (λ (r : Started). can_take P more F.tasks g r ≡ can_take P fuel F.tasks g r) (λ r k. ap (λ (o : Option Need). is_grant g (grant_by F.tasks r o)) (settled-wish P fuel more r most k)) F.tasks
    h.tasks))

first-same : (P : ProgramParts) (fuel more : ℕ) (tasks rs : List Started) → fuel ≤ more → All (HasSettled P fuel) rs → first_grant P more tasks rs ≡ first_grant P fuel tasks rs
first-same P fuel more tasks [] most h = refl
first-same P fuel more tasks (r ∷ rs) most h =
    let one = settled-wish P fuel more r most (all-first (HasSettled P fuel) r rs h) in
    ap (λ (o : Option Need). option_or (grant_by tasks r o) (first_grant P more tasks rs)) one
    ∙ ap (option_or (grant_for P fuel tasks r)) (first-same P fuel more tasks rs most (All-tail (HasSettled P fuel) r rs h))

whole-same : (P : ProgramParts) (fuel more : ℕ) (F : Flat) → fuel ≤ more → IsResting P fuel F → grants_are_whole P more F ≡ grants_are_whole P fuel F
unfolding next_grant
whole-same P fuel more F most h = ap is_none (first-same P fuel more F.tasks F.tasks most h.tasks)

-- ---- a grant

-- the task at a place among the tasks
all-at : (Q : Started → Type 0) (tasks : List Started) (i : ℕ) (r : Started) → slice_get tasks i ≡ Some r → All Q tasks → Q r
all-at Q tasks i r there all = subst Q (get_or_from_slice_get tasks i r r there) (all i r (slice_get_within tasks i r there))

inside : (p : Started → Bool) (xs : List Started) (i : ℕ) → position p xs ≡ Some i → i < length xs
inside p [] i e = absurd (none-some i e)
inside p (x ∷ xs) i e = (position-Some p (x ∷ xs) i x e).0

-- what a grant leads to: the task that takes it runs on
record HasTaken (P : ProgramParts) (fuel : ℕ) (F : Flat) (g : Grant) (G : Flat) : Type 0 where
  pub place : ℕ
  pub at' : position (can_take P fuel F.tasks g) F.tasks ≡ Some place
  pub task : Started
  pub there : slice_get F.tasks place ≡ Some task
  pub waits : WantsLock P fuel task
  pub is : settled P fuel (with_task F place (go_on P fuel task F.memory)) ≡ G

has-taken : (P : ProgramParts) (fuel : ℕ) (F : Flat) (g : Grant) (G : Flat) → granted P fuel g F ≡ Some G → HasTaken P fuel F g G
unfolding granted
has-taken P fuel F g G e = by_place (position (can_take P fuel F.tasks g) F.tasks) refl e where
  by_task : (i : ℕ) → position (can_take P fuel F.tasks g) F.tasks ≡ Some i → (o : Option Started) → slice_get F.tasks i ≡ o → settled P fuel (resumed P fuel F i o) ≡ G → HasTaken P fuel F g G
  by_task i at' None there is = let past = some_within F.tasks i there in absurd (omega (arith, past, inside (can_take P fuel F.tasks g) F.tasks i at'))
  by_task i at' (Some r) there is =
      record { place = i; at' = at'; task = r; there = there; waits = subst (WantsLock P fuel) (get_or_from_slice_get F.tasks i r r there) (place-waits P fuel F.tasks g i at' r); is = is }

  by_place : (o : Option ℕ) → position (can_take P fuel F.tasks g) F.tasks ≡ o → granted_at P fuel F o ≡ Some G → HasTaken P fuel F g G
  by_place None at' e = absurd (none-some G e)
  by_place (Some i) at' e = by_task i at' (slice_get F.tasks i) refl (same_Some _ G e)

-- no task was out of fuel before a grant, if none is after it
granted-unspent : (P : ProgramParts) (fuel : ℕ) (F G : Flat) (g : Grant) → granted P fuel g F ≡ Some G → All Unspent G.tasks → All Unspent F.tasks
granted-unspent P fuel F G g e unspent k d within = by_place (h.place == k) refl where
  h : HasTaken P fuel F g G
  h = has-taken P fuel F g G e

  next : Flat
  next = with_task F h.place (go_on P fuel h.task F.memory)

  later : All Unspent next.tasks
  later = unspent-before P fuel (drop next.begun P.phases) next (subst (λ (x : Flat). All Unspent x.tasks) (sym h.is) unspent)

  by_place : (b : Bool) → (h.place == k) ≡ b → Unspent (get_or F.tasks k d)
  by_place true same spent =
      let here : h.place ≡ k = grind (arith, nat_tests, same) in
      let itself : get_or F.tasks k d ≡ h.task = ap (λ (x : ℕ). get_or F.tasks x d) (sym here) ∙ get_or_from_slice_get F.tasks h.place h.task d h.there in
      none-some cause.TheVariants.Fuel (sym h.waits.open' ∙ (ap (λ (x : Started). x.state.end) (sym itself) ∙ spent))
  by_place false apart spent =
      let other : k ≢ h.place = λ same. grind (arith, nat_tests, apart, same) in
      let inside : k < length next.tasks = omega (arith, within, length-set F.tasks h.place (go_on P fuel h.task F.memory).task) in
      later k d inside (ap (λ (x : Started). x.state.end) (get_or-set_other F.tasks h.place k (go_on P fuel h.task F.memory).task d other) ∙ spent)

granted-same : (P : ProgramParts) (fuel more : ℕ) (F G : Flat) (g : Grant) → fuel ≤ more → IsResting P fuel F → granted P fuel g F ≡ Some G → All Unspent G.tasks → granted P more g F ≡ Some G
unfolding granted
granted-same P fuel more F G g most rest e unspent =
    ap (granted_at P more F) (takes-same P fuel more F g most rest ∙ h.at') ∙ (ap (λ (o : Option Started). Some (settled P more (resumed P more F h.place o))) h.there ∙ ap Some same)
  where
    h : HasTaken P fuel F g G
    h = has-taken P fuel F g G e

    next : Flat
    next = with_task F h.place (go_on P fuel h.task F.memory)

    settled-unspent : All Unspent (settled P fuel next).tasks
    settled-unspent = subst (λ (x : Flat). All Unspent x.tasks) (sym h.is) unspent

    later : All Unspent next.tasks
    later = unspent-before P fuel (drop next.begun P.phases) next settled-unspent

    inside : h.place < length F.tasks
    inside = slice_get_within F.tasks h.place h.task h.there

    own : Unspent (go_on P fuel h.task F.memory).task
    own =
        subst Unspent (get_or-set_same F.tasks h.place (go_on P fuel h.task F.memory).task h.task inside)
        (later h.place h.task (omega (arith, inside, length-set F.tasks h.place (go_on P fuel h.task F.memory).task)))

    steady : IsSteady fuel (in_state h.task (advanced P h.task.state))
    steady = acquired-steady P fuel h.task h.waits (all-at (HasSettled P fuel) F.tasks h.place h.task h.there rest.tasks).steady.within

    runs : go_on P more h.task F.memory ≡ go_on P fuel h.task F.memory
    runs = segment-same P fuel more (record { task = in_state h.task (advanced P h.task.state); memory = F.memory }) most steady own

    same : settled P more (with_task F h.place (go_on P more h.task F.memory)) ≡ G
    same = ap (λ (s : At). settled P more (with_task F h.place s)) runs ∙ (settled-same P fuel more next most settled-unspent ∙ h.is)

-- ---- a list of grants

-- what a list with a first grant leads to, it leads to by that grant
record GoesBy (P : ProgramParts) (fuel : ℕ) (F : Flat) (g : Grant) (gs : List Grant) (G : Flat) : Type 0 where
  pub next : Flat
  pub first : granted P fuel g F ≡ Some next
  pub rest : grants_from P fuel (Some next) gs ≡ Some G

goes-by : (P : ProgramParts) (fuel : ℕ) (F : Flat) (g : Grant) (gs : List Grant) (G : Flat) → grants_from P fuel (Some F) (g ∷ gs) ≡ Some G → GoesBy P fuel F g gs G
goes-by P fuel F g gs G e = by_next (granted P fuel g F) refl e where
  by_next : (o : Option Flat) → granted P fuel g F ≡ o → grants_from P fuel o gs ≡ Some G → GoesBy P fuel F g gs G
  by_next None is e = absurd (none-some G (sym (grants-none P fuel gs) ∙ e))
  by_next (Some next) is e = record { next = next; first = is; rest = e }

unspent-first : (P : ProgramParts) (fuel : ℕ) (F : Flat) (gs : List Grant) (G : Flat) → grants_from P fuel (Some F) gs ≡ Some G → All Unspent G.tasks → All Unspent F.tasks
unspent-first P fuel F [] G e unspent = subst (λ (x : Flat). All Unspent x.tasks) (sym (same_Some F G e)) unspent
unspent-first P fuel F (g ∷ gs) G e unspent =
    let h = goes-by P fuel F g gs G e in
    granted-unspent P fuel F h.next g h.first (unspent-first P fuel h.next gs G h.rest unspent)

grants-same : (P : ProgramParts) (fuel more : ℕ) (F : Flat) (gs : List Grant) (G : Flat) → fuel ≤ more → IsResting P fuel F → grants_from P fuel (Some F) gs ≡ Some G → All Unspent G.tasks
    → grants_from P more (Some F) gs ≡ Some G
grants-same P fuel more F [] G most rest e unspent = e
grants-same P fuel more F (g ∷ gs) G most rest e unspent =
    let h = goes-by P fuel F g gs G e in
    let first = granted-same P fuel more F h.next g most rest h.first (unspent-first P fuel h.next gs G h.rest unspent) in
    ap (λ (o : Option Flat). grants_from P more o gs) first ∙ grants-same P fuel more h.next gs G most (granted-resting P fuel g F h.next rest h.first) h.rest unspent

opened-same : (P : ProgramParts) (fuel more : ℕ) → fuel ≤ more → All Unspent (initial_flat P fuel).tasks → initial_flat P more ≡ initial_flat P fuel
unfolding initial_flat
opened-same P fuel more most unspent = settled-same P fuel more (initial P) most unspent

run-same : (P : ProgramParts) (fuel more : ℕ) (gs : List Grant) (G : Flat) → fuel ≤ more → so_far P fuel gs ≡ Some G → All Unspent G.tasks → so_far P more gs ≡ Some G
run-same P fuel more gs G most e unspent =
    ap (λ (F : Flat). grants_from P more (Some F) gs) (opened-same P fuel more most (unspent-first P fuel (initial_flat P fuel) gs G e unspent))
    ∙ grants-same P fuel more (initial_flat P fuel) gs G most (opened-resting P fuel) e unspent

-- ---- the end

shown-same : (P : ProgramParts) (fuel more : ℕ) (r : Started) → fuel ≤ more → HasLeft fuel r → shown_of P more r r.state.end ≡ shown_of P fuel r r.state.end
shown-same P fuel more r most left = by_end r.state.end refl where
  by_end : (o : Option End) → r.state.end ≡ o → shown_of P more r o ≡ shown_of P fuel r o
  by_end (Some by) is = refl
  by_end None is = ap wait_shown (need-same P fuel more r most (left is))

end-same : (P : ProgramParts) (fuel more : ℕ) (r : Started) → fuel ≤ more → HasLeft fuel r → task_end P more r ≡ task_end P fuel r
end-same P fuel more r most left =
    ap (λ (s : EndShown). let e : TaskEnd = record { phase = r.phase; core = r.decl.core; end = s; retired = r.state.retired } in e) (shown-same P fuel more r most left)

finished-left : (fuel : ℕ) (r : Started) → has_finished r ≡ true → HasLeft fuel r
finished-left fuel r done going = absurd (false≢true (sym (ap finished_by going) ∙ done))

ends-same : (P : ProgramParts) (fuel more : ℕ) (rs : List Started) → fuel ≤ more → All (HasLeft fuel) rs → map (task_end P more) rs ≡ map (task_end P fuel) rs
ends-same P fuel more [] most left = refl
ends-same P fuel more (r ∷ rs) most left =
    ap (λ (t : TaskEnd). t ∷ map (task_end P more) rs) (end-same P fuel more r most (all-first (HasLeft fuel) r rs left))
    ∙ ap (λ (ts : List TaskEnd). task_end P fuel r ∷ ts) (ends-same P fuel more rs most (All-tail (HasLeft fuel) r rs left))

flat_end-same : (P : ProgramParts) (fuel more : ℕ) (F : Flat) → fuel ≤ more → IsResting P fuel F → flat_end_of P more F ≡ flat_end_of P fuel F
unfolding flat_end_of
flat_end-same P fuel more F most h =
    let left = All-append (HasLeft fuel) F.past F.tasks (All-weaker (λ (r : Started). has_finished r ≡ true) (HasLeft fuel) (finished-left fuel) F.past h.past)
    (All-weaker (HasSettled P fuel) (HasLeft fuel) (λ r k. rests-left P fuel r k.steady.within k.rest) F.tasks h.tasks) in
    ap (λ (ts : List TaskEnd). let e : FlatEnd = record { ending = ending_of ts F.memory; loads = flat_loads_of F } in e) (ends-same P fuel more (F.past ++ F.tasks) most left)

picked-done : (a b c : Bool) → picked a b c ≡ outcome.TheVariants.Done → c ≡ false
picked-done true b c e = absurd (cc)
picked-done false true c e = absurd (cc)
picked-done false false true e = absurd (cc)
picked-done false false false e = refl

-- where a run is done no task is shown as out of fuel
none-spent : (ends : List TaskEnd) → outcome_of ends ≡ outcome.TheVariants.Done → All (λ (t : TaskEnd). is_spent t.end ≡ false) ends
unfolding outcome_of
none-spent ends e =
    none-passes (λ (t : TaskEnd). is_spent t.end) ends
    (picked-done (list_any (λ (t : TaskEnd). is_waiting t.end) ends) (list_any (λ (t : TaskEnd). is_trapped t.end) ends) (list_any (λ (t : TaskEnd). is_spent t.end) ends) e)

shown-unspent : (P : ProgramParts) (fuel : ℕ) (r : Started) → is_spent (task_end P fuel r).end ≡ false → Unspent r
shown-unspent P fuel r shows spent = true≢false (sym (ap (λ (o : Option End). is_spent (shown_of P fuel r o)) spent) ∙ shows)

mapped : {X Y : Type 0} (f : X → Y) (Q : Y → Type 0) (xs : List X) → All Q (map f xs) → All (λ (x : X). Q (f x)) xs
mapped f Q [] all = All-nil _
mapped f Q (x ∷ xs) all = All-cons (λ y. Q (f y)) x xs (all-first Q (f x) (map f xs) all) (mapped f Q xs (All-tail Q (f x) (map f xs) all))

all-behind : (Q : Started → Type 0) (xs ys : List Started) → All Q (xs ++ ys) → All Q ys
all-behind Q [] ys all = all
all-behind Q (x ∷ xs) ys all = all-behind Q xs ys (All-tail Q x (xs ++ ys) all)

-- a run at whose end no task is out of fuel
pub unspent-same : (P : ProgramParts) (fuel more : ℕ) (gs : List Grant) (e : FlatEnd) → fuel ≤ more → flat_end P fuel gs ≡ Some e → All (λ (t : TaskEnd). is_spent t.end ≡ false) e.ending.tasks → flat_end P more gs ≡ Some e
unspent-same P fuel more gs e most ends none =
    let h = run-ended P fuel gs e ends in
    let F : Flat = h.last in
    let rest = run-resting P fuel gs F h.leads in
    let shows : All (λ (t : TaskEnd). is_spent t.end ≡ false) (map (task_end P fuel) (F.past ++ F.tasks)) = subst (All (λ (t : TaskEnd). is_spent t.end ≡ false)) h.tasks none in
    let all = All-weaker (λ (r : Started). is_spent (task_end P fuel r).end ≡ false) Unspent (shown-unspent P fuel) (F.past ++ F.tasks) (mapped (task_end P fuel) (λ (t : TaskEnd). is_spent t.end ≡ false) (F.past ++ F.tasks) shows) in
    let leads = run-same P fuel more gs F most h.leads (all-behind Unspent F.past F.tasks all) in
    let is : flat_end_of P fuel F ≡ e = same_Some (flat_end_of P fuel F) e (sym (whole-ends P fuel gs F h.leads h.whole) ∙ ends) in
    whole-ends P more gs F leads (whole-same P fuel more F most rest ∙ h.whole) ∙ ap Some (flat_end-same P fuel more F most rest ∙ is)

pub done-same : (P : ProgramParts) (fuel more : ℕ) (gs : List Grant) (e : FlatEnd) → fuel ≤ more → flat_end P fuel gs ≡ Some e → e.ending.outcome ≡ outcome.TheVariants.Done → flat_end P more gs ≡ Some e
done-same P fuel more gs e most ends done =
    unspent-same P fuel more gs e most ends (none-spent e.ending.tasks (sym (run-ended P fuel gs e ends).outcome ∙ done))
