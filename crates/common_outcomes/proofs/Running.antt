-- What holds of the flat machine at each point of a run, in every order: its phase is one that the answer goes through, and its
-- tasks stand as the tasks alone.
use Rattle.std.proofs.Common.{◌≡◌, ◌≢◌, ◌⊎◌, inl, inr, ℕ, zero, suc, ◌+◌, ◌<◌, ◌≤◌, ◌^◌, Bool, true, false, not, cond, if◌then◌else◌, List, [], ◌∷◌, ◌++◌, length, map, drop, get_or, slice_index, slice_index_or, slice_get, slice_set, Option, Some, None, is_none, refl, sym, ap, ◌∙◌, subst, arith, ⊎_elim}
use Rattle.std.specs.List.{IsAmong, list_all, find}
use Rattle.std.specs.Option.{option_or, option_map}
use Rattle.std.proofs.lemmas.Bool.{false≢true, cases_lt}
use Rattle.std.proofs.lemmas.List.{map-append}
use Rattle.std.proofs.lemmas.List.Folds.{list_any_at}
use Rattle.std.proofs.lemmas.Option.{none-some, same_Some, slice_get-get_or, slice_get_within, get_or_from_slice_get}
use Rattle.dn_base.specs.declared.ids.Grant.{Grant}
use Rattle.dn_base.specs.declared.ids.LockId.{LockId}
use Rattle.region_table.specs.Program.{ProgramParts, IsProgram}
use Rattle.region_table.specs.Numbers.{HasWords}
use Rattle.region_table.specs.declared.declared.TaskDecl.{TaskDecl}
use Rattle.region_table.specs.declared.declared.Phase.{Phase}
use Rattle.rv_core.specs.declared.task.End.{End}
use Rattle.rv_core.specs.declared.need.Need.{Need}
use Rattle.rv_core.specs.declared.need.Need as need
use Rattle.rv_core.specs.declared.ending.TaskEnd.{TaskEnd}
use Rattle.rv_core.specs.Access.{is_held}
use Rattle.rv_core.specs.Step.{advanced}
use Rattle.effect_checker.specs.Checked.{IsChecked}
use Rattle.flat_machine.specs.Step.{Started, At, fresh, wish, in_state, segment}
use Rattle.flat_machine.specs.Phases.{Flat, all_tasks, run_all, begin, finished_by, has_finished, initial}
use Rattle.flat_machine.specs.Grants.{is_free, grant_of, grant_by, is_grant, can_take, go_on, with_task, so_far}
use Rattle.flat_machine.specs.Ending.{task_end}
use Rattle.flat_machine.specs.Laws.{at_memory}
use Rattle.flat_machine.proofs.CauseLemmas.{all-pass}
use Rattle.flat_machine.proofs.KeptLaws.{so_far-kept}
use Rattle.flat_machine.proofs.PhaseLemmas.{left-of}
use Rattle.flat_machine.proofs.Rights.{both-ways}
use Rattle.flat_machine.proofs.SegmentLaws.{segment-later}
use Rattle.flat_machine.proofs.SettleLaws.{next-left}
use Rattle.run_agreement.proofs.Places.{by-place, set-there, map-place, place-map}
use Rattle.effect_prover.proofs.FollowWords.{AreBelow, words-below}
use Rattle.common_outcomes.specs.declared.value.Kind.{Kind}
use Rattle.common_outcomes.specs.declared.value.Kind.TheVariants.{Known, Offset, Varying}
use Rattle.common_outcomes.specs.declared.value.Value.{Value}
use Rattle.common_outcomes.specs.declared.value.Effect.{Effect}
use Rattle.common_outcomes.specs.declared.value.Effect.TheVariants.{Kept, Added, Set, Other}
use Rattle.common_outcomes.specs.declared.answer.Common.{Common}
use Rattle.common_outcomes.specs.declared.answer.Open.{Open}
use Rattle.common_outcomes.specs.declared.answer.Outcomes.{Outcomes}
use Rattle.common_outcomes.specs.declared.answer.Outcomes as answer
use Rattle.common_outcomes.specs.Values.{known, plus, applied}
use Rattle.common_outcomes.specs.Alone.{Setup, Alone, alone, alone_steps, start_alone}
use Rattle.common_outcomes.specs.Phases.{Summary, setup, summary, summaries, effects_at, after_from, is_control_open}
use Rattle.common_outcomes.specs.Answer.{control_of, first_held, first_stuck, open_of, end_alone, settled_with, has_ended_well, answer_by, answer_from, outcomes}
use Rattle.common_outcomes.specs.Agreeing.{Denotes, IsBetween, Side, FitsAlone, side_effects, IsSettledPhase}
use Rattle.common_outcomes.proofs.Closing.{any-base, applied-between}
use Rattle.common_outcomes.proofs.Locking.{IsFree, lock-moves}
use Rattle.common_outcomes.proofs.Opening.{start_side, map-over, phase-starts, HasRun, all-run}
use Rattle.common_outcomes.proofs.Phase.{phase-ends}
use Rattle.common_outcomes.proofs.Segments.{Stand, HasMoved, segment-moves}
use Rattle.common_outcomes.proofs.Sides.{set-again, map-set, among-at, IsSideOf, side-at}
use Rattle.common_outcomes.proofs.Summing.{sums, are-sums, HasEnded, AllEnded, alone-ended, sums-effects, sums-finished, sums-ends, after-at, after-past, after-length}

-- ---- why a phase isn't open

pub answer-shut : (o : Option Open) (b : Bool) (here later : Outcomes) (common : Common) → answer_by o b here later ≡ answer.TheVariants.Settled common → o ≡ None
answer-shut None b here later common e = refl
answer-shut (Some why) b here later common e = absurd (cc)

pub or-none : {X : Type 0} (a b : Option X) → option_or a b ≡ None → (a ≡ None) × (b ≡ None)
or-none None b e = (refl, e)
or-none (Some x) b e = absurd (none-some x (sym e))

pub map-none : {X Y : Type 0} (f : X → Y) (o : Option X) → option_map f o ≡ None → o ≡ None
map-none f None e = refl
map-none f (Some x) e = absurd (none-some (f x) (sym e))

-- none of them passes where none is found
pub find-none : {X : Type 0} (test : X → Bool) (xs : List X) → find test xs ≡ None → (i : ℕ) (x : X) → slice_get xs i ≡ Some x → test x ≡ false
find-none test [] e i x there = absurd (none-some x there)
find-none {X} test (y ∷ ys) e i x there = by_test (test y) refl e (λ h. find-none test ys h) i there
  where
    by_test : (b : Bool) → test y ≡ b → cond b (Some y) (find test ys) ≡ None → (find test ys ≡ None → (i : ℕ) (x : X) → slice_get ys i ≡ Some x → test x ≡ false) → (i : ℕ) → slice_get (y ∷ ys) i ≡ Some x → test x ≡ false
    by_test true is e later i there = absurd (none-some y (sym e))
    by_test false is e later zero there = subst (λ (z : X). test z ≡ false) (same_Some y x there) is
    by_test false is e later (suc i) there = later e i x there

-- what a settled answer says of a phase that it goes through
pub record IsShut (phase : ℕ) (rs : List Summary) : Type 0 where
  pub control : find is_control_open rs ≡ None
  pub held : first_held phase rs rs ≡ None
  pub stuck : first_stuck phase rs ≡ None

pub phase-shut : (phase : ℕ) (rs : List Summary) → open_of phase rs ≡ None → IsShut phase rs
phase-shut phase rs e =
    let parts = or-none (option_map (control_of phase) (find is_control_open rs)) (option_or (first_held phase rs rs) (first_stuck phase rs)) e in
    let more = or-none (first_held phase rs rs) (first_stuck phase rs) parts.1 in
    record { control = map-none (control_of phase) (find is_control_open rs) parts.0; held = more.0; stuck = more.1 }

settled-phase : (P : ProgramParts) (fuel : ℕ) (p : Phase) (first : List Value) → IsProgram P → IsChecked P → IsAmong P.phases p → ((w : ℕ) → (slice_index_or first w (known 0)).number < 2 ^ 32)
    → ((w : ℕ) → IsBetween (slice_index_or first w (known 0)).kind) → find is_control_open (summaries P fuel p first) ≡ None → IsSettledPhase P fuel p first
settled-phase P fuel p first program checked among small between shut =
    record {
      program = program;
      checked = checked;
      among = among;
      small = small;
      between = between;
      ends = λ d in_tasks none.
          let there : slice_get p.tasks in_tasks.0 ≡ Some d = slice_get-get_or p.tasks in_tasks.0 d in_tasks.1.0 ∙ ap Some (sym in_tasks.1.1) in
          let test = find-none is_control_open (summaries P fuel p first) shut in_tasks.0 (summary P fuel p first d) (place-map (summary P fuel p first) p.tasks in_tasks.0 d there) in
          both-ways (is_none (alone (setup P fuel p first d)).state.end) test (ap (λ (o : Option End). is_none o) none);
    }

-- ---- the premises of a run

pub record IsAnswered (P : ProgramParts) (fuel : ℕ) (common : Common) : Type 0 where
  pub program : IsProgram P
  pub numbers : HasWords P
  pub checked : IsChecked P
  pub answer : outcomes P fuel ≡ answer.TheVariants.Settled common

-- what is known of memory before a phase, where all phases before it are over
abbrev pub memory_behind : ProgramParts → ℕ → Option Phase → List Value → List Value
memory_behind P fuel None first = first
memory_behind P fuel (Some p) first = after_from 0 (summaries P fuel p first) first

abbrev pub memory_before : ProgramParts → ℕ → ℕ → List Value
memory_before P fuel zero = map known P.memory
memory_before P fuel (suc k) = memory_behind P fuel (slice_get P.phases k) (memory_before P fuel k)

-- between two phases: what the answer knows of memory, and how the answer goes on
pub record AtBoundary (P : ProgramParts) (fuel : ℕ) (common : Common) (F : Flat) : Type 0 where
  pub first : List Value
  pub ends : List TaskEnd
  pub before : first ≡ memory_before P fuel F.begun
  pub answers : answer_from P fuel F.begun (drop F.begun P.phases) ends first ≡ answer.TheVariants.Settled common
  pub past : map (task_end P fuel) (all_tasks F) ≡ ends
  pub count : length first ≡ length P.memory
  pub words : length F.memory ≡ length P.memory
  pub below : AreBelow (2 ^ 32) F.memory
  pub small : (w : ℕ) → (slice_index_or first w (known 0)).number < 2 ^ 32
  pub between : (w : ℕ) → IsBetween (slice_index_or first w (known 0)).kind
  pub stands : (w : ℕ) → Denotes (slice_index_or first w (known 0)) (slice_index F.memory) (slice_index F.memory w)

-- within a phase
pub record InPhase (P : ProgramParts) (fuel : ℕ) (common : Common) (F : Flat) : Type 0 where
  pub place : ℕ
  pub phase : Phase
  pub left : List Phase
  pub first : List Value
  pub ends : List TaskEnd
  pub begun : F.begun ≡ place + 1
  pub there : drop place P.phases ≡ phase ∷ left
  pub before : first ≡ memory_before P fuel place
  pub answers : answer_from P fuel place (phase ∷ left) ends first ≡ answer.TheVariants.Settled common
  pub past : map (task_end P fuel) F.past ≡ ends
  pub count : length first ≡ length P.memory
  pub settled : IsSettledPhase P fuel phase first
  pub sides : List Side
  pub stand : Stand P fuel phase first sides F.memory
  pub runs : map (λ (s : Side). s.run) sides ≡ F.tasks
  pub numbers : (i : ℕ) (r : Started) → slice_get F.tasks i ≡ Some r → r.phase ≡ record { 0 = place }

-- ---- a phase begins

first-phase : (P : ProgramParts) (fuel k : ℕ) (ds : List TaskDecl) (m : List ℕ) (i : ℕ) (r : Started) → slice_get (run_all P fuel k ds m).tasks i ≡ Some r → r.phase ≡ record { 0 = k }
first-phase P fuel k [] m i r there = absurd (none-some r there)
first-phase P fuel k (d ∷ ds) m zero r there =
    ap (λ (x : Started). x.phase) (sym (same_Some (segment P fuel (at_memory (fresh k d) m)).task r there)) ∙ (segment-later P fuel (at_memory (fresh k d) m)).phase
first-phase P fuel k (d ∷ ds) m (suc i) r there = first-phase P fuel k ds (segment P fuel (at_memory (fresh k d) m)).memory i r there

phase-begins : (P : ProgramParts) (fuel : ℕ) (common : Common) (p : Phase) (F : Flat) → IsAnswered P fuel common → slice_get P.phases F.begun ≡ Some p → list_all has_finished F.tasks ≡ true
    → AtBoundary P fuel common F → InPhase P fuel common (begin P fuel p F)
unfolding begin
phase-begins P fuel common p F a there done h =
    record {
      place = F.begun;
      phase = p;
      left = left;
      first = h.first;
      ends = h.ends;
      begun = refl;
      there = cut;
      before = h.before;
      answers = answers;
      past = h.past;
      count = h.count;
      settled = settled;
      sides = ran.sides;
      stand = ran.stand;
      runs = ran.runs;
      numbers = first-phase P fuel F.begun p.tasks F.memory;
    }
  where
    left : List Phase
    left = drop (F.begun + 1) P.phases

    cut : drop F.begun P.phases ≡ p ∷ left
    cut = left-of P F p (ap (λ (b : Bool). if b then slice_get P.phases F.begun else None) done ∙ there)

    answers : answer_from P fuel F.begun (p ∷ left) h.ends h.first ≡ answer.TheVariants.Settled common
    answers = ap (λ (l : List Phase). answer_from P fuel F.begun l h.ends h.first) (sym cut) ∙ h.answers

    rs : List Summary
    rs = summaries P fuel p h.first

    shut : IsShut F.begun rs
    shut = phase-shut F.begun rs (answer-shut (open_of F.begun rs) (list_all has_ended_well rs) _ _ common answers)

    settled : IsSettledPhase P fuel p h.first
    settled = settled-phase P fuel p h.first a.program a.checked (among-at P.phases F.begun p there) h.small h.between shut.control

    start : Stand P fuel p h.first (map (start_side P fuel p h.first F.begun F.memory) p.tasks) F.memory
    start = phase-starts P fuel p h.first F.begun F.memory a.numbers there h.words h.below h.stands

    ran : HasRun P fuel p h.first [] (run_all P fuel F.begun p.tasks F.memory)
    ran =
        all-run P fuel p h.first F.begun a.numbers settled p.tasks [] (map (start_side P fuel p h.first F.begun F.memory) p.tasks) F.memory start
        (map-over (λ (s : Side). s.run) (start_side P fuel p h.first F.begun F.memory) p.tasks)

-- ---- a phase is over

-- a task of the phase that has ended in the run has ended alone
pub side-ended : (P : ProgramParts) (fuel : ℕ) (p : Phase) (first : List Value) (sides : List Side) (m : List ℕ) (i : ℕ) (s : Side) (by : End) → IsSettledPhase P fuel p first
    → Stand P fuel p first sides m → slice_get sides i ≡ Some s → s.run.state.end ≡ Some by → HasEnded s
side-ended P fuel p first sides m i s by h k there over = by_end (alone s.setup).state.end refl
  where
    fits : FitsAlone s.setup s.base s.alone s.run m
    fits = k.agrees.all.each i s there

    ks : IsSideOf P fuel p first i s
    ks = side-at P fuel p first sides k.are i s there

    ends : s.alone.state.end ≡ Some by
    ends = sym (ap (λ t. t.end) fits.state) ∙ over

    reached : s.alone ≡ alone_steps s.setup s.steps (start_alone s.setup)
    reached = k.agrees.all.reached i s there

    by_end : (o : Option End) → (alone s.setup).state.end ≡ o → HasEnded s
    by_end None e = absurd (h.ends ks.decl (among-at p.tasks i ks.decl ks.there) (ap (λ (S : Setup). (alone S).state.end) (sym ks.setup) ∙ e))
    by_end (Some two) e =
        record {
          by = by;
          ends = ends;
          run = over;
          is = reached ∙ alone-ended s.setup s.steps by two e (ap (λ (a : Alone). a.state.end) (sym reached) ∙ ends);
          decl = fits.decl;
          retired = ap (λ t. t.retired) fits.state;
        }

-- each task of the phase has ended
abbrev pub HaveEnded : List Started → Type 0
HaveEnded tasks = (i : ℕ) (r : Started) → slice_get tasks i ≡ Some r → r.state.end ≢ None

pub sides-ended : (P : ProgramParts) (fuel : ℕ) (common : Common) (F : Flat) → (h : InPhase P fuel common F) → HaveEnded F.tasks → AllEnded h.sides
sides-ended P fuel common F h over i s there =
    let at' : slice_get F.tasks i ≡ Some s.run = ap (λ (l : List Started). slice_get l i) (sym h.runs) ∙ place-map (λ (x : Side). x.run) h.sides i s there in
    by_end (over i s.run at') s.run.state.end refl
  where
    by_end : s.run.state.end ≢ None → (o : Option End) → s.run.state.end ≡ o → HasEnded s
    by_end ended None e = absurd (ended e)
    by_end ended (Some by) e = side-ended P fuel h.phase h.first h.sides F.memory i s by h.settled h.stand there e

-- the ends and the memory with which a phase is over are those of the answer
pub record IsOver (P : ProgramParts) (fuel : ℕ) (F : Flat) (ends : List TaskEnd) (after : List Value) : Type 0 where
  pub tasks : map (task_end P fuel) (all_tasks F) ≡ ends
  pub count : length after ≡ length P.memory
  pub words : length F.memory ≡ length P.memory
  pub small : (w : ℕ) → (slice_index_or after w (known 0)).number < 2 ^ 32
  pub between : (w : ℕ) → IsBetween (slice_index_or after w (known 0)).kind
  pub stands : (w : ℕ) → Denotes (slice_index_or after w (known 0)) (slice_index F.memory) (slice_index F.memory w)

applied-small : (e : Effect) (v : Value) (base : ℕ → ℕ) (m : ℕ) → v.number < 2 ^ 32 → m < 2 ^ 32 → Denotes (applied e v) base m → (applied e v).number < 2 ^ 32
applied-small Kept v base m low small h = low
applied-small (Set n) v base m low small h = omega (arith, small, h)
applied-small (Added n) v base m low small h = by_kind v.kind
  where
    by_kind : (k : Kind) → (plus k v.number n).number < 2 ^ 32
    by_kind Known = omega arith
    by_kind (Offset w) = omega arith
    by_kind Varying = omega arith
applied-small Other v base m low small h = omega arith

past-zero : (m : List ℕ) (w : ℕ) → length m ≤ w → slice_index m w ≡ 0
past-zero [] w high = refl
past-zero (x ∷ m) zero high = absurd (omega arith)
past-zero (x ∷ m) (suc w) high = past-zero m w (omega arith)

pub phase-over : (P : ProgramParts) (fuel : ℕ) (common : Common) (F : Flat) → (h : InPhase P fuel common F) → HaveEnded F.tasks
    → IsOver P fuel F (h.ends ++ map (end_alone h.place) (summaries P fuel h.phase h.first)) (after_from 0 (summaries P fuel h.phase h.first) h.first)
phase-over P fuel common F h over =
    record {
      tasks = map-append (task_end P fuel) F.past F.tasks ∙ ap (λ (l : List TaskEnd). l ++ map (task_end P fuel) F.tasks) h.past ∙ ap (λ (l : List TaskEnd). h.ends ++ l) (sym tasks);
      count = after-length rs h.first 0 ∙ h.count;
      words = h.stand.words;
      small = λ w. (known' w).1;
      between = λ w. (known' w).2;
      stands = λ w. (known' w).0;
    }
  where
    rs : List Summary
    rs = summaries P fuel h.phase h.first

    is : rs ≡ sums h.sides
    is = are-sums P fuel h.phase h.first h.sides h.stand.are

    ended : AllEnded h.sides
    ended = sides-ended P fuel common F h over

    tasks : map (end_alone h.place) rs ≡ map (task_end P fuel) F.tasks
    tasks =
        ap (map (end_alone h.place)) is
        ∙ sums-ends P fuel h.place h.sides ended
        (λ i s there. h.numbers i s.run (ap (λ (l : List Started). slice_get l i) (sym h.runs) ∙ place-map (λ (x : Side). x.run) h.sides i s there))
        ∙ ap (map (task_end P fuel)) h.runs

    v : ℕ → Value
    v w = slice_index_or h.first w (known 0)

    m : ℕ → ℕ
    m w = slice_index F.memory w

    effect : (w : ℕ) → effects_at rs (0 + w) ≡ side_effects h.sides w
    effect w = let e : 0 + w ≡ w = omega arith in ap (effects_at rs) e ∙ ap (λ (l : List Summary). effects_at l w) is ∙ sums-effects h.sides w ended

    within : (w : ℕ) → w < length h.first → slice_index_or (after_from 0 rs h.first) w (known 0) ≡ applied (side_effects h.sides w) (v w)
    within w low = after-at rs h.first 0 w low ∙ ap (λ (e : Effect). applied e (v w)) (effect w)

    holds : (w : ℕ) → Denotes (applied (side_effects h.sides w) (v w)) h.stand.agrees.ended (m w)
    holds w =
        phase-ends h.first h.sides h.stand.agrees.ended F.memory h.stand.agrees.all (λ i s there none. none-some (ended i s there).by (sym none ∙ (ended i s there).ends)) w

    IsKnownAs : ℕ → Value → Type 0
    IsKnownAs w x = Denotes x m (m w) × (x.number < 2 ^ 32) × IsBetween x.kind

    known' : (w : ℕ) → IsKnownAs w (slice_index_or (after_from 0 rs h.first) w (known 0))
    known' w =
        ⊎_elim
        (λ (low : w < length h.first).
        let between : IsBetween (applied (side_effects h.sides w) (v w)).kind = applied-between (side_effects h.sides w) (v w) (h.settled.between w) in
        subst (IsKnownAs w) (sym (within w low)) (
          any-base (applied (side_effects h.sides w) (v w)) (m w) h.stand.agrees.ended m between (holds w),
          applied-small (side_effects h.sides w) (v w) h.stand.agrees.ended (m w) (h.settled.small w) (h.stand.below w) (holds w),
          between,
        ))
        (λ (high : length h.first ≤ w).
        let words = h.stand.words in
        let count = h.count in
        let zero' : m w ≡ 0 = past-zero F.memory w (omega (arith, words, count, high)) in
        let low : 0 < 2 ^ 32 = omega arith in
        subst (IsKnownAs w) (sym (after-past rs h.first 0 w high)) (zero', low, tt))
        (cases_lt w (length h.first))

passes-at : {X : Type 0} (test : X → Bool) (xs : List X) (i : ℕ) (x : X) → list_all test xs ≡ true → slice_get xs i ≡ Some x → test x ≡ true
passes-at {X} test xs i x all there = subst (λ (y : X). test y ≡ true) (get_or_from_slice_get xs i x x there) (all-pass test xs all i x (slice_get_within xs i x there))

finished-ended : (r : Started) → has_finished r ≡ true → r.state.end ≢ None
finished-ended r e none = false≢true (sym (ap finished_by none) ∙ e)

-- where all tasks have finished, the answer goes on with the next phase
pub phase-passed : (P : ProgramParts) (fuel : ℕ) (common : Common) (F : Flat) → list_all has_finished F.tasks ≡ true → InPhase P fuel common F → AtBoundary P fuel common F
phase-passed P fuel common F done h =
    record {
      first = after;
      ends = now;
      before = before;
      answers = ap (λ (n : ℕ). answer_from P fuel n (drop n P.phases) now after) h.begun ∙ ap (λ (l : List Phase). answer_from P fuel (h.place + 1) l now after) behind ∙ sym goes ∙ h.answers;
      past = over.tasks;
      count = over.count;
      words = h.stand.words;
      below = h.stand.below;
      small = over.small;
      between = over.between;
      stands = over.stands;
    }
  where
    rs : List Summary
    rs = summaries P fuel h.phase h.first

    now : List TaskEnd
    now = h.ends ++ map (end_alone h.place) rs

    after : List Value
    after = after_from 0 rs h.first

    have : HaveEnded F.tasks
    have i r there = finished-ended r (passes-at has_finished F.tasks i r done there)

    over : IsOver P fuel F now after
    over = phase-over P fuel common F h have

    before : after ≡ memory_before P fuel F.begun
    before =
        let number : h.place + 1 ≡ suc h.place = omega arith in
        let here : slice_get P.phases h.place ≡ Some h.phase = (next-left P (record { begun = h.place; past = []; tasks = []; memory = [] }) h.phase h.left h.there).there in
        sym (ap (memory_before P fuel) (h.begun ∙ number) ∙ ap (λ (o : Option Phase). memory_behind P fuel o (memory_before P fuel h.place)) here
        ∙ ap (memory_behind P fuel (Some h.phase)) (sym h.before))

    behind : drop (h.place + 1) P.phases ≡ h.left
    behind = (next-left P (record { begun = h.place; past = []; tasks = []; memory = [] }) h.phase h.left h.there).behind

    shut : open_of h.place rs ≡ None
    shut = answer-shut (open_of h.place rs) (list_all has_ended_well rs) _ _ common h.answers

    well : list_all has_ended_well rs ≡ true
    well =
        ap (list_all has_ended_well) (are-sums P fuel h.phase h.first h.sides h.stand.are) ∙ sums-finished h.sides (sides-ended P fuel common F h have) ∙ ap (list_all has_finished) h.runs ∙ done

    goes : answer_from P fuel h.place (h.phase ∷ h.left) h.ends h.first ≡ answer_from P fuel (h.place + 1) h.left now after
    goes =
        ap (λ (o : Option Open). answer_by o (list_all has_ended_well rs) (settled_with now after) (answer_from P fuel (h.place + 1) h.left now after)) shut
        ∙ ap (λ (b : Bool). answer_by None b (settled_with now after) (answer_from P fuel (h.place + 1) h.left now after)) well

-- ---- before the first phase

pub known-at : (ms : List ℕ) (w : ℕ) → slice_index_or (map known ms) w (known 0) ≡ known (slice_index ms w)
known-at [] w = refl
known-at (m ∷ ms) zero = refl
known-at (m ∷ ms) (suc w) = known-at ms w

known-length : (ms : List ℕ) → length (map known ms) ≡ length ms
known-length [] = refl
known-length (m ∷ ms) = ap suc (known-length ms)

first-answers : (P : ProgramParts) (fuel : ℕ) (common : Common) → outcomes P fuel ≡ answer.TheVariants.Settled common → answer_from P fuel 0 (drop 0 P.phases) [] (map known P.memory) ≡ answer.TheVariants.Settled common
unfolding outcomes
first-answers P fuel common e = e

pub run-starts : (P : ProgramParts) (fuel : ℕ) (common : Common) → IsAnswered P fuel common → AtBoundary P fuel common (initial P)
run-starts P fuel common a =
    record {
      first = map known P.memory;
      ends = [];
      before = refl;
      answers = first-answers P fuel common a.answer;
      past = refl;
      count = known-length P.memory;
      words = refl;
      below = below;
      small = λ w. subst (λ (v : Value). v.number < 2 ^ 32) (sym (known-at P.memory w)) (below w);
      between = λ w. subst (λ (v : Value). IsBetween v.kind) (sym (known-at P.memory w)) tt;
      stands = λ w. subst (λ (v : Value). Denotes v (slice_index P.memory) (slice_index P.memory w)) (sym (known-at P.memory w)) refl;
    }
  where
    below : AreBelow (2 ^ 32) P.memory
    below = words-below P.memory a.numbers.memory

-- ---- a grant

-- a task that can take a grant waits for a lock that no task of the phase holds
record Takes (P : ProgramParts) (fuel : ℕ) (tasks : List Started) (r : Started) : Type 0 where
  lock : LockId
  wants : wish P fuel r ≡ Some (need.TheVariants.Acquire lock)
  free : is_free tasks lock.0 ≡ true

takes : (P : ProgramParts) (fuel : ℕ) (tasks : List Started) (g : Grant) (r : Started) → can_take P fuel tasks g r ≡ true → Takes P fuel tasks r
takes P fuel tasks g r e = by_wish (wish P fuel r) refl e
  where
    by_free : (lock : LockId) → wish P fuel r ≡ Some (need.TheVariants.Acquire lock) → (b : Bool) → is_free tasks lock.0 ≡ b → is_grant g (if b then Some (grant_of r lock) else None) ≡ true → Takes P fuel tasks r
    by_free lock is false free e = absurd (false≢true e)
    by_free lock is true free e = record { lock = lock; wants = is; free = free }

    by_wish : (o : Option Need) → wish P fuel r ≡ o → is_grant g (grant_by tasks r o) ≡ true → Takes P fuel tasks r
    by_wish None is e = absurd (false≢true e)
    by_wish (Some (need.TheVariants.Acquire lock)) is e = by_free lock is (is_free tasks lock.0) refl e
    by_wish (Some need.TheVariants.Local) is e = absurd (false≢true e)
    by_wish (Some (need.TheVariants.Load word)) is e = absurd (false≢true e)
    by_wish (Some (need.TheVariants.Store word whole)) is e = absurd (false≢true e)
    by_wish (Some (need.TheVariants.Release lock)) is e = absurd (false≢true e)
    by_wish (Some (need.TheVariants.End by)) is e = absurd (false≢true e)

lock-free : (P : ProgramParts) (fuel : ℕ) (common : Common) (F : Flat) (lock : ℕ) → (h : InPhase P fuel common F) → is_free F.tasks lock ≡ true → IsFree h.sides lock
lock-free P fuel common F lock h free j q there = by_test (is_held q.alone.state.held lock) refl
  where
    at' : slice_get F.tasks j ≡ Some q.run
    at' = ap (λ (l : List Started). slice_get l j) (sym h.runs) ∙ place-map (λ (x : Side). x.run) h.sides j q there

    same : q.run.state.held ≡ q.alone.state.held
    same = ap (λ t. t.held) (h.stand.agrees.all.each j q there).state

    by_test : (b : Bool) → is_held q.alone.state.held lock ≡ b → is_held q.alone.state.held lock ≡ false
    by_test false e = e
    by_test true e =
        let holds : is_held (get_or F.tasks j q.run).state.held lock ≡ true =
        ap (λ (r : Started). is_held r.state.held lock) (get_or_from_slice_get F.tasks j q.run q.run at') ∙ ap (λ (x : ℕ). is_held x lock) same ∙ e in
        let some = list_any_at (λ (r : Started). is_held r.state.held lock) F.tasks j q.run (slice_get_within F.tasks j q.run at') holds in
        absurd (false≢true (sym (ap not some) ∙ free))

grant-kept : (P : ProgramParts) (fuel : ℕ) (common : Common) (F : Flat) (g : Grant) (i : ℕ) (r : Started) → IsAnswered P fuel common → slice_get F.tasks i ≡ Some r → can_take P fuel F.tasks g r ≡ true
    → InPhase P fuel common F → InPhase P fuel common (with_task F i (go_on P fuel r F.memory))
grant-kept P fuel common F g i r a there can h =
    record {
      place = h.place;
      phase = h.phase;
      left = h.left;
      first = h.first;
      ends = h.ends;
      begun = h.begun;
      there = h.there;
      before = h.before;
      answers = h.answers;
      past = h.past;
      count = h.count;
      settled = h.settled;
      sides = slice_set h.sides i last.side;
      stand = subst (λ (l : List Side). Stand P fuel h.phase h.first l (go_on P fuel r F.memory).memory) (set-again h.sides i one.side last.side)
          (subst (λ (x : At). Stand P fuel h.phase h.first (slice_set (slice_set h.sides i one.side) i last.side) x.memory) from last.stand);
      runs = map-set (λ (s : Side). s.run) h.sides i last.side ∙ ap (λ (l : List Started). slice_set l i last.side.run) h.runs
          ∙ ap (slice_set F.tasks i) (last.run ∙ ap (λ (x : At). x.task) from);
      numbers = by-place (λ (j : ℕ) (q : Started). q.phase ≡ record { 0 = h.place }) F.tasks i (go_on P fuel r F.memory).task
          (λ q at'. (segment-later P fuel (record { task = in_state r (advanced P r.state); memory = F.memory })).phase ∙ h.numbers i r there) (λ j q away at'. h.numbers j q at');
    }
  where
    found : (s : Side) × (slice_get h.sides i ≡ Some s) × (s.run ≡ r)
    found = map-place (λ (s : Side). s.run) h.sides i r (ap (λ (l : List Started). slice_get l i) h.runs ∙ there)

    s : Side
    s = found.0

    k : Takes P fuel F.tasks r
    k = takes P fuel F.tasks g r can

    one : HasMoved P fuel h.phase h.first h.sides i (at_memory (in_state s.run (advanced P s.run.state)) F.memory)
    one =
        lock-moves P fuel h.phase h.first h.sides F.memory i s k.lock h.settled h.stand found.1 (ap (wish P fuel) found.2 ∙ k.wants) (lock-free P fuel common F k.lock.0 h k.free)

    last : HasMoved P fuel h.phase h.first (slice_set h.sides i one.side) i (segment P fuel (at_memory one.side.run F.memory))
    last = segment-moves P fuel h.phase h.first a.numbers h.settled (slice_set h.sides i one.side) F.memory i one.side one.stand (set-there h.sides i one.side s found.1)

    from : segment P fuel (at_memory one.side.run F.memory) ≡ go_on P fuel r F.memory
    from =
        ap (λ (x : Started). segment P fuel (at_memory x F.memory)) one.run ∙ ap (λ (x : Started). segment P fuel (at_memory (in_state x (advanced P x.state)) F.memory)) found.2

-- ---- runs

abbrev pub Holds : ProgramParts → ℕ → Common → Flat → Type 0
Holds P fuel common F = (F ≡ initial P) ⊎ InPhase P fuel common F

pub run-holds : (P : ProgramParts) (fuel : ℕ) (common : Common) (gs : List Grant) (F : Flat) → IsAnswered P fuel common → so_far P fuel gs ≡ Some F → Holds P fuel common F
run-holds P fuel common gs F a e =
    so_far-kept P fuel (Holds P fuel common)
    (record {
      starts = inl refl;
      begins = record { keeps = λ p F there done k. inr (phase-begins P fuel common p F a there done (boundary F done k)) };
      resumes = λ F g i r there can k. resumed' F g i r there can k;
    }) gs F e
  where
    boundary : (F : Flat) → list_all has_finished F.tasks ≡ true → Holds P fuel common F → AtBoundary P fuel common F
    boundary F done (inl is) = subst (AtBoundary P fuel common) (sym is) (run-starts P fuel common a)
    boundary F done (inr h) = phase-passed P fuel common F done h

    resumed' : (F : Flat) (g : Grant) (i : ℕ) (r : Started) → slice_get F.tasks i ≡ Some r → can_take P fuel F.tasks g r ≡ true → Holds P fuel common F → Holds P fuel common (with_task F i (go_on P fuel r F.memory))
    resumed' F g i r there can (inl is) = absurd (none-some r (sym (ap (λ (x : Flat). slice_get x.tasks i) is) ∙ there))
    resumed' F g i r there can (inr h) = inr (grant-kept P fuel common F g i r a there can h)
