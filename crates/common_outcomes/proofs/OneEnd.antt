-- Without locks the answer is settled, nothing varies, and it is the end of the flat machine's run without grants.
use Rattle.std.proofs.Common.{◌≡◌, ◌≢◌, ◌⊎◌, inl, inr, ℕ, zero, suc, ◌+◌, ◌<◌, ◌≤◌, Bool, true, false, ◌&&◌, cond, List, [], ◌∷◌, ◌++◌, length, map, get_or, slice_index, slice_index_or, slice_get, Option, Some, None, is_none, refl, sym, ap, ◌∙◌, subst, arith, ⊎_elim}
use Rattle.std.specs.List.{IsAmong, list_all, list_any, find}
use Rattle.std.specs.Option.{option_or, option_map}
use Rattle.std.proofs.lemmas.Bool.{false≢true, or_cases, or_right, cases_lt}
use Rattle.std.proofs.lemmas.Grind.{same_number_lists}
use Rattle.std.proofs.lemmas.Option.{slice_get_within, get_or_from_slice_get}
use Rattle.dn_base.specs.declared.status.Outcome.{Outcome}
use Rattle.region_table.specs.Program.{ProgramParts, IsProgram, IsPhase, IsTask}
use Rattle.region_table.specs.Numbers.{HasWords}
use Rattle.region_table.specs.Words.{has}
use Rattle.region_table.specs.Plan.{task_writes}
use Rattle.region_table.specs.declared.interval.Interval.{Interval}
use Rattle.region_table.specs.declared.declared.TaskDecl.{TaskDecl}
use Rattle.region_table.specs.declared.declared.Phase.{Phase}
use Rattle.rv_core.specs.declared.task.End.{End}
use Rattle.rv_core.specs.declared.ending.TaskEnd.{TaskEnd}
use Rattle.rv_core.specs.declared.ending.Ending.{Ending}
use Rattle.rv_core.specs.Access.{is_held}
use Rattle.rv_core.proofs.HeldLemmas.{holds-none}
use Rattle.effect_checker.specs.Checked.{IsChecked, writes_plainly}
use Rattle.effect_checker.proofs.SeparationLemmas.{phase-checked, plain_words_apart}
use Rattle.flat_machine.specs.declared.ending.FlatEnd.{FlatEnd}
use Rattle.flat_machine.specs.Phases.{initial_flat}
use Rattle.flat_machine.specs.Ending.{flat_end, flat_end_of}
use Rattle.flat_machine.proofs.RunLemmas.{alone-runs}
use Rattle.run_agreement.proofs.Places.{map-place}
use Rattle.common_outcomes.specs.declared.value.Kind.TheVariants.{Known}
use Rattle.common_outcomes.specs.declared.value.Value.{Value}
use Rattle.common_outcomes.specs.declared.value.Effect.{Effect}
use Rattle.common_outcomes.specs.declared.value.Effect.TheVariants.{Kept, Set}
use Rattle.common_outcomes.specs.declared.answer.Common.{Common}
use Rattle.common_outcomes.specs.declared.answer.Open.{Open}
use Rattle.common_outcomes.specs.declared.answer.Open.TheVariants.{Held, Stuck}
use Rattle.common_outcomes.specs.declared.answer.Outcomes.{Outcomes}
use Rattle.common_outcomes.specs.declared.answer.Outcomes as answer
use Rattle.common_outcomes.specs.Values.{known, joined_effect, applied}
use Rattle.common_outcomes.specs.Alone.{cell_at}
use Rattle.common_outcomes.specs.Phases.{Summary, setup, summary, summaries, effects_at, after_from, is_control_open, takes_elsewhere, is_nested, IsLockWay, is_on_circle}
use Rattle.common_outcomes.specs.Answer.{locks_up_to, control_of, held_lock, first_held, first_stuck, open_of, end_alone, settled_with, has_ended_well, answer_by, answer_from, outcomes}
use Rattle.common_outcomes.specs.Laws.{IsCommonTo, HasOneEnd}
use Rattle.common_outcomes.proofs.Circles.{circle-way}
use Rattle.common_outcomes.proofs.Lockless.{IsLockless, IsSet, IsPlain, plain-alone, comes-to-end}
use Rattle.common_outcomes.proofs.Running.{known-at}
use Rattle.common_outcomes.proofs.Settling.{every-order}
use Rattle.common_outcomes.proofs.Sides.{among-at}
use Rattle.common_outcomes.proofs.Summing.{after-at, after-past}

-- a phase of a program without locks, and memory that is known
record IsLocklessPhase (P : ProgramParts) (p : Phase) (first : List Value) : Type 0 where
  program : IsProgram P
  checked : IsChecked P
  among : IsAmong P.phases p
  none : length P.locks ≡ 0
  known : (w : ℕ) → (slice_index_or first w (known 0)).kind ≡ Known

lockless-at : (P : ProgramParts) (fuel : ℕ) (p : Phase) (first : List Value) (d : TaskDecl) → IsLocklessPhase P p first → IsAmong p.tasks d → IsLockless (setup P fuel p first d)
lockless-at P fuel p first d h among = record { none = h.none; checked = phase-checked P p h.checked h.among; among = among; first = h.known }

-- a summary of the phase is that of one of its tasks
record IsSummary (P : ProgramParts) (fuel : ℕ) (p : Phase) (first : List Value) (r : Summary) : Type 0 where
  among : IsAmong p.tasks r.decl
  plain : IsPlain (setup P fuel p first r.decl) r.alone
  ends : r.alone.state.end ≢ None

summary-at : (P : ProgramParts) (fuel : ℕ) (p : Phase) (first : List Value) → IsLocklessPhase P p first → (i : ℕ) (r : Summary) → slice_get (summaries P fuel p first) i ≡ Some r → IsSummary P fuel p first r
summary-at P fuel p first h i r there =
    let found = map-place (summary P fuel p first) p.tasks i r there in
    let d : TaskDecl = found.0 in
    let k = lockless-at P fuel p first d h (among-at p.tasks i d found.1) in
    subst (IsSummary P fuel p first) found.2
    (record { among = among-at p.tasks i d found.1; plain = plain-alone (setup P fuel p first d) k; ends = comes-to-end (setup P fuel p first d) k })

AreSummaries : ProgramParts → ℕ → Phase → List Value → List Summary → Type 0
AreSummaries P fuel p first rs = (i : ℕ) (r : Summary) → slice_get rs i ≡ Some r → IsSummary P fuel p first r

are-summaries : (P : ProgramParts) (fuel : ℕ) (p : Phase) (first : List Value) → IsLocklessPhase P p first → AreSummaries P fuel p first (summaries P fuel p first)
unfolding AreSummaries
are-summaries P fuel p first h = summary-at P fuel p first h

-- ---- it isn't open

none-found : {X : Type 0} (test : X → Bool) (xs : List X) → ((i : ℕ) (x : X) → slice_get xs i ≡ Some x → test x ≡ false) → find test xs ≡ None
none-found test [] h = refl
none-found {X} test (x ∷ xs) h = ap (λ (b : Bool). cond b (Some x) (find test xs)) (h zero x refl) ∙ none-found test xs (λ i y there. h (suc i) y there)

no-control : (P : ProgramParts) (fuel : ℕ) (p : Phase) (first : List Value) (rs : List Summary) → AreSummaries P fuel p first rs → find is_control_open rs ≡ None
unfolding AreSummaries
no-control P fuel p first rs h = none-found is_control_open rs (λ i r there. by_end r.alone.state.end (h i r there).ends)
  where
    by_end : (o : Option End) → o ≢ None → is_none o ≡ false
    by_end None e = absurd (e refl)
    by_end (Some by) e = refl

nothing-held : (P : ProgramParts) (fuel : ℕ) (p : Phase) (first : List Value) (phase : ℕ) (rs left : List Summary) → AreSummaries P fuel p first left → first_held phase rs left ≡ None
unfolding AreSummaries
nothing-held P fuel p first phase rs [] h = refl
nothing-held P fuel p first phase rs (r ∷ left) h =
    let here = h zero r refl in
    let none : held_lock rs r ≡ None =
    none-found (λ (l : ℕ). is_held r.alone.state.held l && list_any (takes_elsewhere r.decl l) rs) locks_up_to
    (λ i l there. ap (λ (b : Bool). b && list_any (takes_elsewhere r.decl l) rs) (ap (λ (x : ℕ). is_held x l) here.plain.held ∙ holds-none l)) in
    let one : Option ℕ → Option Open = λ o. option_or (option_map (λ (l : ℕ). Held (record { 0 = phase }) r.decl.core (record { 0 = l })) o) (first_held phase rs left) in
    ap one none ∙ nothing-held P fuel p first phase rs left (λ i q there. h (suc i) q there)

none-before : (P : ProgramParts) (fuel : ℕ) (p : Phase) (first : List Value) (rs : List Summary) (a b : ℕ) → AreSummaries P fuel p first rs → is_nested rs a b ≡ true → ⊥
unfolding AreSummaries
none-before P fuel p first [] a b h e = false≢true e
none-before P fuel p first (r ∷ rs) a b h e =
    let later = none-before P fuel p first rs a b (λ i q there. h (suc i) q there) in
    ⊎_elim (λ (k : is_held (slice_index r.alone.over b) a ≡ true). false≢true (sym ((h zero r refl).plain.over b a) ∙ k)) (λ (k : is_nested rs a b ≡ true). later k)
    (or_cases (is_held (slice_index r.alone.over b) a) (is_nested rs a b) e)

nothing-stuck : (P : ProgramParts) (fuel : ℕ) (p : Phase) (first : List Value) (phase : ℕ) (rs : List Summary) → AreSummaries P fuel p first rs → first_stuck phase rs ≡ None
nothing-stuck P fuel p first phase rs h =
    let none : find (is_on_circle rs) locks_up_to ≡ None = none-found (is_on_circle rs) locks_up_to (λ i l there. apart l (is_on_circle rs l) refl) in
    ap (option_map (λ (l : ℕ). Stuck (record { 0 = phase }) (record { 0 = l }))) none
  where
    first-step : (l : ℕ) (ls : List ℕ) → IsLockWay rs l ls l → ⊥
    first-step l [] w = none-before P fuel p first rs l l h w
    first-step l (k ∷ ls) w = none-before P fuel p first rs l k h w.0

    apart : (l : ℕ) (b : Bool) → is_on_circle rs l ≡ b → is_on_circle rs l ≡ false
    apart l false e = e
    apart l true e = let c = circle-way rs l e in absurd (first-step l c.between c.way)

-- ---- memory after it is known

-- without locks a word that a task writes it writes plainly
writes-plain : (P : ProgramParts) (p : Phase) (d : TaskDecl) (w : ℕ) → IsProgram P → IsAmong P.phases p → IsAmong p.tasks d → length P.locks ≡ 0 → task_writes d w ≡ true → writes_plainly d w ≡ true
writes-plain P p d w program among in_tasks none e =
    let well : IsPhase (length P.memory) (length P.locks) p = subst (IsPhase (length P.memory) (length P.locks)) (sym among.1.1) (program.each_phase among.0 p among.1.0) in
    let task : IsTask (length P.memory) (length P.locks) d = subst (IsTask (length P.memory) (length P.locks)) (sym in_tasks.1.1) (well.tasks in_tasks.0 d in_tasks.1.0) in
    let count : length d.effects.guarded_writes ≡ 0 = task.effects.writes_by_lock ∙ none in
    ⊎_elim (λ (h : has d.effects.writes w ≡ true). h)
    (λ (h : list_any (λ (set : List Interval). has set w) d.effects.guarded_writes ≡ true). absurd (no-set d.effects.guarded_writes count h))
    (or_cases (has d.effects.writes w) (list_any (λ (set : List Interval). has set w) d.effects.guarded_writes) e)
  where
    no-set : (sets : List (List Interval)) → length sets ≡ 0 → list_any (λ (set : List Interval). has set w) sets ≡ true → ⊥
    no-set [] count h = false≢true h
    no-set (s ∷ sets) count h = omega (arith, count)

one-writer : (P : ProgramParts) (p : Phase) (first : List Value) (d e : TaskDecl) (w : ℕ) → IsLocklessPhase P p first → IsAmong p.tasks d → IsAmong p.tasks e → d.core.0 ≢ e.core.0 → task_writes d w ≡ true
    → task_writes e w ≡ true → ⊥
one-writer P p first d e w h at_d at_e cores x y =
    let plain = writes-plain P p d w h.program h.among at_d h.none x in
    let other = writes-plain P p e w h.program h.among at_e h.none y in
    plain_words_apart p d e w (phase-checked P p h.checked h.among) at_d at_e cores plain (or_right (has e.effects.reads w) (has e.effects.writes w) other)

-- each two are on different cores
AreApart : List Summary → Type 0
AreApart rs = (i j : ℕ) (a b : Summary) → i ≢ j → slice_get rs i ≡ Some a → slice_get rs j ≡ Some b → a.decl.core.0 ≢ b.decl.core.0

all-kept : (rs : List Summary) (w : ℕ) → ((i : ℕ) (r : Summary) → slice_get rs i ≡ Some r → (cell_at r.alone.cells w).effect ≡ Kept) → effects_at rs w ≡ Kept
all-kept [] w h = refl
all-kept (r ∷ rs) w h = ap (λ (e : Effect). joined_effect e (effects_at rs w)) (h zero r refl) ∙ all-kept rs w (λ i q there. h (suc i) q there)

IsSetOnce : Effect → Type 0
IsSetOnce e = (e ≡ Kept) ⊎ ((n : ℕ) × (e ≡ Set n))

set-once : (P : ProgramParts) (fuel : ℕ) (p : Phase) (first : List Value) (rs : List Summary) (w : ℕ) → IsLocklessPhase P p first → AreSummaries P fuel p first rs → AreApart rs → IsSetOnce (effects_at rs w)
unfolding AreSummaries AreApart IsSetOnce
set-once P fuel p first [] w k h apart = inl refl
set-once P fuel p first (r ∷ rs) w k h apart =
    by_effect (set-once P fuel p first rs w k (λ i q there. h (suc i) q there) (λ i j a b off at' at''. apart (suc i) (suc j) a b (λ e. off (omega (arith, e))) at' at'')) ((h zero r refl).plain.effects w)
  where
    e : Effect
    e = (cell_at r.alone.cells w).effect

    others : IsSet r.decl w e → (i : ℕ) (q : Summary) → slice_get rs i ≡ Some q → (cell_at q.alone.cells w).effect ≡ Kept
    others s i q there = by_other ((h (suc i) q there).plain.effects w)
      where
        by_other : ((cell_at q.alone.cells w).effect ≡ Kept) ⊎ IsSet q.decl w (cell_at q.alone.cells w).effect → (cell_at q.alone.cells w).effect ≡ Kept
        by_other (inl kept) = kept
        by_other (inr t) =
            absurd (one-writer P p first r.decl q.decl w k (h zero r refl).among (h (suc i) q there).among (apart zero (suc i) r q (λ x. absurd (omega (arith, x))) refl there) s.writes t.writes)

    by_effect : IsSetOnce (effects_at rs w) → (e ≡ Kept) ⊎ IsSet r.decl w e → IsSetOnce (joined_effect e (effects_at rs w))
    by_effect rest (inl kept) = subst (λ (x : Effect). IsSetOnce (joined_effect x (effects_at rs w))) (sym kept) rest
    by_effect rest (inr s) = inr (s.number, ap (λ (x : Effect). joined_effect x (effects_at rs w)) s.is ∙ ap (joined_effect (Set s.number)) (all-kept rs w (others s)))

known-applied : (e : Effect) (v : Value) → IsSetOnce e → v.kind ≡ Known → (applied e v).kind ≡ Known
unfolding IsSetOnce
known-applied e v (inl kept) is = ap (λ (x : Effect). (applied x v).kind) kept ∙ is
known-applied e v (inr s) is = ap (λ (x : Effect). (applied x v).kind) s.1

-- ---- the answer

record IsKnownAnswer (found : Outcomes) : Type 0 where
  common : Common
  settled : found ≡ answer.TheVariants.Settled common
  known : (w : ℕ) → (slice_index_or common.memory w (known 0)).kind ≡ Known

summaries-apart : (P : ProgramParts) (fuel : ℕ) (p : Phase) (first : List Value) → IsLocklessPhase P p first → AreApart (summaries P fuel p first)
unfolding AreApart
summaries-apart P fuel p first h i j a b off at' at'' same =
    let x = map-place (summary P fuel p first) p.tasks i a at' in
    let y = map-place (summary P fuel p first) p.tasks j b at'' in
    let well : IsPhase (length P.memory) (length P.locks) p = subst (IsPhase (length P.memory) (length P.locks)) (sym h.among.1.1) (h.program.each_phase h.among.0 p h.among.1.0) in
    let less : (m n : ℕ) (d e : TaskDecl) → m < n → slice_get p.tasks m ≡ Some d → slice_get p.tasks n ≡ Some e → d.core.0 < e.core.0 = λ m n d e before there there'.
    let r = well.rising m n d before (slice_get_within p.tasks n e there') in
    let one : (get_or p.tasks m d).core.0 ≡ d.core.0 = ap (λ (t : TaskDecl). t.core.0) (get_or_from_slice_get p.tasks m d d there) in
    let two : (get_or p.tasks n d).core.0 ≡ e.core.0 = ap (λ (t : TaskDecl). t.core.0) (get_or_from_slice_get p.tasks n e d there') in
    omega (arith, r, one, two) in
    let cores : x.0.core.0 ≡ y.0.core.0 = ap (λ (s : Summary). s.decl.core.0) x.2 ∙ same ∙ ap (λ (s : Summary). s.decl.core.0) (sym y.2) in
    ⊎_elim (λ (l : i < j). let r = less i j x.0 y.0 l x.1 y.1 in omega (arith, r, cores)) (λ (l : j ≤ i). let r = less j i y.0 x.0 (omega (arith, l, off)) y.1 x.1 in omega (arith, r, cores)) (cases_lt i j)

answer-known : (P : ProgramParts) (fuel : ℕ) → IsProgram P → IsChecked P → length P.locks ≡ 0 → (left : List Phase) (place : ℕ) (ends : List TaskEnd) (first : List Value)
    → ((i : ℕ) (p : Phase) → slice_get left i ≡ Some p → IsAmong P.phases p) → ((w : ℕ) → (slice_index_or first w (known 0)).kind ≡ Known) → IsKnownAnswer (answer_from P fuel place left ends first)
answer-known P fuel program checked none [] place ends first among known' = record { common = _; settled = refl; known = known' }
answer-known P fuel program checked none (p ∷ left) place ends first among known' =
    by_test (answer-known P fuel program checked none left (place + 1) now after (λ i q there. among (suc i) q there) after-known) (list_all has_ended_well rs) refl
  where
    h : IsLocklessPhase P p first
    h = record { program = program; checked = checked; among = among zero p refl; none = none; known = known' }

    rs : List Summary
    rs = summaries P fuel p first

    now : List TaskEnd
    now = ends ++ map (end_alone place) rs

    after : List Value
    after = after_from 0 rs first

    each : AreSummaries P fuel p first rs
    each = are-summaries P fuel p first h

    after-known : (w : ℕ) → (slice_index_or after w (known 0)).kind ≡ Known
    after-known w =
        ⊎_elim
        (λ (low : w < length first).
        ap (λ (v : Value). v.kind) (after-at rs first 0 w low) ∙ known-applied (effects_at rs (0 + w)) (slice_index_or first w (known 0)) (set-once P fuel p first rs (0 + w) h each (summaries-apart P fuel p first h)) (known' w))
        (λ (high : length first ≤ w). ap (λ (v : Value). v.kind) (after-past rs first 0 w high)) (cases_lt w (length first))

    shut : open_of place rs ≡ None
    shut =
        ap (λ (o : Option Summary). option_or (option_map (control_of place) o) (option_or (first_held place rs rs) (first_stuck place rs))) (no-control P fuel p first rs each)
        ∙ ap (λ (o : Option Open). option_or o (first_stuck place rs)) (nothing-held P fuel p first place rs rs each)
        ∙ nothing-stuck P fuel p first place rs each

    later : Outcomes
    later = answer_from P fuel (place + 1) left now after

    by_test : IsKnownAnswer later → (b : Bool) → list_all has_ended_well rs ≡ b → IsKnownAnswer (answer_by (open_of place rs) (list_all has_ended_well rs) (settled_with now after) later)
    by_test rest b e =
        subst IsKnownAnswer (sym (ap (λ (o : Option Open). answer_by o (list_all has_ended_well rs) (settled_with now after) later) shut ∙ ap (λ (c : Bool). answer_by None c (settled_with now after) later) e)) (by_choice rest b)
      where
        by_choice : IsKnownAnswer later → (b : Bool) → IsKnownAnswer (answer_by None b (settled_with now after) later)
        by_choice rest true = rest
        by_choice rest false = record { common = _; settled = refl; known = after-known }

outcomes-known : (P : ProgramParts) (fuel : ℕ) → IsProgram P → IsChecked P → length P.locks ≡ 0 → IsKnownAnswer (outcomes P fuel)
unfolding outcomes
outcomes-known P fuel program checked none =
    answer-known P fuel program checked none P.phases 0 [] (map known P.memory) (λ i p there. among-at P.phases i p there) (λ w. ap (λ (v : Value). v.kind) (known-at P.memory w))

number-at : (vs : List Value) (w : ℕ) → slice_index (map (λ (v : Value). v.number) vs) w ≡ (slice_index_or vs w (known 0)).number
number-at [] w = refl
number-at (v ∷ vs) zero = refl
number-at (v ∷ vs) (suc w) = number-at vs w

numbers-length : (vs : List Value) → length (map (λ (v : Value). v.number) vs) ≡ length vs
numbers-length [] = refl
numbers-length (v ∷ vs) = ap suc (numbers-length vs)

pub one-end : (P : ProgramParts) (fuel : ℕ) → IsProgram P → HasWords P → IsChecked P → length P.locks ≡ 0 → HasOneEnd P fuel
one-end P fuel program numbers checked none =
    record {
      common = k.common;
      settled = k.settled;
      known = k.known;
      end' = e;
      run = run;
      ending = ap (λ (o : Outcome). ending o e.ending.tasks e.ending.memory) c.outcome ∙ ap (λ (t : List TaskEnd). ending k.common.outcome t e.ending.memory) c.tasks ∙ ap (ending k.common.outcome k.common.tasks) memory;
    }
  where
    k : IsKnownAnswer (outcomes P fuel)
    k = outcomes-known P fuel program checked none

    e : FlatEnd
    e = flat_end_of P fuel (initial_flat P fuel)

    run : flat_end P fuel [] ≡ Some e
    run = alone-runs P fuel none

    c : IsCommonTo k.common e.ending
    c = every-order P fuel k.common [] e (record { program = program; numbers = numbers; checked = checked; answer = k.settled }) run

    ending : Outcome → List TaskEnd → List ℕ → Ending
    ending o t m = record { outcome = o; tasks = t; memory = m }

    memory : e.ending.memory ≡ map (λ (v : Value). v.number) k.common.memory
    memory =
        same_number_lists _ _ (c.count ∙ sym (numbers-length k.common.memory)) (λ w within. c.words w (k.known w) ∙ sym (number-at k.common.memory w))
