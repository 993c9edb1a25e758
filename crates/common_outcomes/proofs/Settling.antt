-- A whole run of a program whose answer is settled: nobody waits, and its end has what the answer says.
use Rattle.std.proofs.Common.{◌≡◌, ◌≢◌, inl, inr, ℕ, zero, suc, ◌+◌, ◌<◌, ◌≤◌, Bool, true, false, not, ◌&&◌, ◌==◌, if◌then◌else◌, List, [], ◌∷◌, ◌++◌, length, map, drop, slice_index, slice_index_or, slice_get, Option, Some, None, refl, sym, ap, ◌∙◌, subst, arith}
use Rattle.std.specs.List.{list_all, list_any, find, range_with_len}
use Rattle.std.specs.Option.{option_map}
use Rattle.std.proofs.lemmas.Bool.{and_from, ne_eqb}
use Rattle.std.proofs.lemmas.List.FromFn.{length-range_with_len, get_or-range_with_len}
use Rattle.std.proofs.lemmas.List.Folds.{list_any_at}
use Rattle.std.proofs.lemmas.Option.{none-some, same_Some, slice_get-get_or, slice_get_within, slice_get_read, get_or_from_slice_get}
use Rattle.dn_base.specs.declared.ids.Grant.{Grant}
use Rattle.dn_base.specs.declared.ids.LockId.{LockId}
use Rattle.dn_base.specs.declared.status.Outcome as outcome
use Rattle.region_table.specs.Program.{ProgramParts}
use Rattle.region_table.specs.declared.declared.Phase.{Phase}
use Rattle.rv_core.specs.declared.task.End.{End}
use Rattle.rv_core.specs.declared.need.Need.{Need}
use Rattle.rv_core.specs.declared.need.Need as need
use Rattle.rv_core.specs.declared.ending.TaskEnd.{TaskEnd}
use Rattle.rv_core.specs.Access.{is_held}
use Rattle.rv_core.specs.Ending.{outcome_of}
use Rattle.rv_core.specs.Need.{need_of}
use Rattle.rv_core.proofs.Completions.{acquire-allowed}
use Rattle.flat_machine.specs.declared.ending.FlatEnd.{FlatEnd}
use Rattle.flat_machine.specs.Step.{Started, wish, wish_unless}
use Rattle.flat_machine.specs.Phases.{Flat, has_finished, next_phase, settled, initial, initial_flat}
use Rattle.flat_machine.specs.Grants.{resumed, granted_at, granted, granted_if, grants_from, so_far, grants_are_whole}
use Rattle.flat_machine.specs.Ending.{flat_end_of, flat_end}
use Rattle.flat_machine.specs.Laws.{IsEnded}
use Rattle.flat_machine.proofs.CauseLemmas.{run-ended, run-held_up, run-waiter, whole-ends}
use Rattle.flat_machine.proofs.PhaseLemmas.{some_within}
use Rattle.flat_machine.proofs.Rights.{both-ways}
use Rattle.flat_machine.proofs.SettleLaws.{settled-last}
use Rattle.run_agreement.proofs.Places.{map-place, place-map}
use Rattle.common_outcomes.specs.declared.value.Value.{Value}
use Rattle.common_outcomes.specs.declared.answer.Common.{Common}
use Rattle.common_outcomes.specs.declared.answer.Open.{Open}
use Rattle.common_outcomes.specs.declared.answer.Open.TheVariants.{Held}
use Rattle.common_outcomes.specs.declared.answer.Outcomes.{Outcomes}
use Rattle.common_outcomes.specs.declared.answer.Outcomes as answer
use Rattle.common_outcomes.specs.Values.{known}
use Rattle.common_outcomes.specs.Alone.{Setup, Alone, is_settled_next, alone}
use Rattle.common_outcomes.specs.Phases.{Summary, summaries, takes_elsewhere, is_nested, is_on_circle, after_from}
use Rattle.common_outcomes.specs.Answer.{locks_up_to, held_lock, first_held, open_of, end_alone, settled_with, has_ended_well, answer_by, answer_from}
use Rattle.common_outcomes.specs.Agreeing.{DenotesBy, Side, FitsAlone}
use Rattle.common_outcomes.specs.Laws.{IsCommonTo}
use Rattle.common_outcomes.proofs.Acquired.{HasAcquired, acquired-alone}
use Rattle.common_outcomes.proofs.Circles.{rank, rank-falls}
use Rattle.common_outcomes.proofs.Running.{find-none, or-none, map-none, IsShut, phase-shut, answer-shut, IsAnswered, AtBoundary, InPhase, HaveEnded, side-ended, sides-ended, IsOver, phase-over, phase-passed, run-starts, Holds, run-holds}
use Rattle.common_outcomes.proofs.Segments.{side-settled, side-wish}
use Rattle.common_outcomes.proofs.Sides.{among-at, IsSideOf, side-at, cores-apart}
use Rattle.common_outcomes.proofs.Summing.{summary_of, sums, are-sums, sums-finished}
use Rattle.common_outcomes.proofs.Waiting.{AreRanked, nobody-waits}

-- ---- locks for which nothing is found

no-lock : (test : ℕ → Bool) (l : ℕ) → find test locks_up_to ≡ None → l < 32 → test l ≡ false
no-lock test l e low =
    let within : l < length (range_with_len 0 32) = subst (λ (n : ℕ). l < n) (sym (length-range_with_len 0 32)) low in
    let zero' : 0 + l ≡ l = omega arith in
    let there : slice_get (range_with_len 0 32) l ≡ Some l = slice_get-get_or (range_with_len 0 32) l 0 within ∙ ap Some (get_or-range_with_len 0 32 l 0 low ∙ zero') in
    find-none test locks_up_to e l l there

no-held : (phase : ℕ) (rs left : List Summary) → first_held phase rs left ≡ None → (i : ℕ) (r : Summary) → slice_get left i ≡ Some r → held_lock rs r ≡ None
no-held phase rs [] e i r there = absurd (none-some r there)
no-held phase rs (q ∷ left) e i r there = by_place i there (no-held phase rs left)
  where
    parts : (option_map (λ (l : ℕ). Held (record { 0 = phase }) q.decl.core (record { 0 = l })) (held_lock rs q) ≡ None) × (first_held phase rs left ≡ None)
    parts = or-none _ _ e

    by_place : (i : ℕ) → slice_get (q ∷ left) i ≡ Some r → (first_held phase rs left ≡ None → (i : ℕ) (r : Summary) → slice_get left i ≡ Some r → held_lock rs r ≡ None) → held_lock rs r ≡ None
    by_place zero there again = subst (λ (x : Summary). held_lock rs x ≡ None) (same_Some q r there) (map-none _ (held_lock rs q) parts.0)
    by_place (suc i) there again = again parts.1 i r there

any-there : {X : Type 0} (test : X → Bool) (xs : List X) (i : ℕ) (x : X) → slice_get xs i ≡ Some x → test x ≡ true → list_any test xs ≡ true
any-there {X} test xs i x there e =
    list_any_at test xs i x (slice_get_within xs i x there) (subst (λ (y : X). test y ≡ true) (sym (get_or_from_slice_get xs i x x there)) e)

-- ---- nobody waits

-- a task that waits in the run acquires the lock alone
record Waits (P : ProgramParts) (fuel : ℕ) (common : Common) (F : Flat) (h : InPhase P fuel common F) (i : ℕ) (r : Started) (lock : ℕ) : Type 0 where
  side : Side
  there : slice_get h.sides i ≡ Some side
  run : side.run ≡ r
  low : lock < 32
  has : HasAcquired (alone side.setup) r.state.held lock

waits : (P : ProgramParts) (fuel : ℕ) (common : Common) (F : Flat) → (h : InPhase P fuel common F) → (i : ℕ) (r : Started) (lock : LockId) → slice_get F.tasks i ≡ Some r → r.state.end ≡ None
    → need_of P r.decl fuel r.state ≡ need.TheVariants.Acquire lock → Waits P fuel common F h i r lock.0
waits P fuel common F h i r lock there runs wants =
    record { side = s; there = found.1; run = found.2; low = low; has = by_end (alone s.setup).state.end refl }
  where
    found : (s : Side) × (slice_get h.sides i ≡ Some s) × (s.run ≡ r)
    found = map-place (λ (s : Side). s.run) h.sides i r (ap (λ (l : List Started). slice_get l i) h.runs ∙ there)

    s : Side
    s = found.0

    fits : FitsAlone s.setup s.base s.alone s.run F.memory
    fits = h.stand.agrees.all.each i s found.1

    ks : IsSideOf P fuel h.phase h.first i s
    ks = side-at P fuel h.phase h.first h.sides h.stand.are i s found.1

    going : s.alone.state.end ≡ None
    going = sym (ap (λ t. t.end) fits.state) ∙ ap (λ (x : Started). x.state.end) found.2 ∙ runs

    held : s.alone.state.held ≡ r.state.held
    held = sym (ap (λ t. t.held) fits.state) ∙ ap (λ (x : Started). x.state.held) found.2

    settled : is_settled_next s.setup s.alone ≡ true
    settled = side-settled P fuel h.phase h.first i s h.settled ks (h.stand.agrees.all.reached i s found.1) going

    wish' : wish P fuel s.run ≡ Some (need.TheVariants.Acquire lock)
    wish' = ap (wish P fuel) found.2 ∙ ap (wish_unless P fuel r) runs ∙ ap Some wants

    needs : need_of s.setup.program s.setup.decl s.setup.fuel s.alone.state ≡ need.TheVariants.Acquire lock
    needs = same_Some _ _ (sym (side-wish P fuel h.phase h.first h.sides F.memory i s h.settled h.stand found.1 going) ∙ wish')

    low : lock.0 < 32
    low = let few = h.settled.program.locks in let within = (acquire-allowed P r.decl fuel r.state lock wants).0 in omega (arith, few, within)

    by_end : (o : Option End) → (alone s.setup).state.end ≡ o → HasAcquired (alone s.setup) r.state.held lock.0
    by_end None e = absurd (h.settled.ends ks.decl (among-at h.phase.tasks i ks.decl ks.there) (ap (λ (S : Setup). (alone S).state.end) (sym ks.setup) ∙ e))
    by_end (Some by) e =
        subst (λ (x : ℕ). HasAcquired (alone s.setup) x lock.0) held
        (acquired-alone s.setup s.steps s.alone by lock (h.stand.agrees.all.reached i s found.1) e going settled needs low)

sum-there : (sides : List Side) (i : ℕ) (s : Side) → slice_get sides i ≡ Some s → slice_get (sums sides) i ≡ Some (summary_of s.setup)
sum-there sides i s there = place-map (λ (x : Side). summary_of x.setup) sides i s there

pub are-ranked : (P : ProgramParts) (fuel : ℕ) (common : Common) (F : Flat) → (h : InPhase P fuel common F) → IsShut h.place (sums h.sides) → AreRanked P fuel F.tasks (rank (sums h.sides))
are-ranked P fuel common F h shut =
    record {
      falls = λ i r held there runs holds l wants.
          let w = waits P fuel common F h i r l there runs wants in
          let before : is_nested rs held l.0 ≡ true =
          any-there (λ (x : Summary). is_held (slice_index x.alone.over l.0) held) rs i (summary_of w.side.setup) (sum-there h.sides i w.side w.there) (w.has.over held holds) in
          rank-falls rs held l.0 w.low (no-lock (is_on_circle rs) l.0 (map-none _ (find (is_on_circle rs) locks_up_to) shut.stuck) w.low) before;
      free = λ i j r s apart there at' by over runs l wants holds. held-free i j r s apart there at' by over runs l wants holds;
    }
  where
    rs : List Summary
    rs = sums h.sides

    held-free : (i j : ℕ) (r s : Started) → i ≢ j → slice_get F.tasks i ≡ Some r → slice_get F.tasks j ≡ Some s → (by : End) → s.state.end ≡ Some by → r.state.end ≡ None
        → (l : LockId) → need_of P r.decl fuel r.state ≡ need.TheVariants.Acquire l → is_held s.state.held l.0 ≡ true → ⊥
    held-free i j r s apart there at' by over runs l wants holds =
        let w = waits P fuel common F h i r l there runs wants in
        let found = map-place (λ (x : Side). x.run) h.sides j s (ap (λ (t : List Started). slice_get t j) h.runs ∙ at') in
        let q : Side = found.0 in
        let ended = side-ended P fuel h.phase h.first h.sides F.memory j q by h.settled h.stand found.1 (ap (λ (x : Started). x.state.end) found.2 ∙ over) in
        let fits = h.stand.agrees.all.each j q found.1 in
        let holds' : is_held (alone q.setup).state.held l.0 ≡ true =
        ap (λ (x : ℕ). is_held x l.0) (ap (λ (a : Alone). a.state.held) (sym ended.is) ∙ sym (ap (λ t. t.held) fits.state) ∙ ap (λ (x : Started). x.state.held) found.2) ∙ holds in
        let ki = side-at P fuel h.phase h.first h.sides h.stand.are i w.side w.there in
        let kj = side-at P fuel h.phase h.first h.sides h.stand.are j q found.1 in
        let cores : w.side.setup.decl.core.0 ≢ q.setup.decl.core.0 = λ e. cores-apart P fuel h.phase h.first i j ki.decl kj.decl h.settled apart ki.there kj.there
        (ap (λ (S : Setup). S.decl.core.0) (sym ki.setup) ∙ e ∙ ap (λ (S : Setup). S.decl.core.0) kj.setup) in
        let elsewhere : takes_elsewhere q.setup.decl l.0 (summary_of w.side.setup) ≡ true =
        and_from (not (w.side.setup.decl.core.0 == q.setup.decl.core.0)) (is_held (alone w.side.setup).acquired l.0) (ap not (ne_eqb w.side.setup.decl.core.0 q.setup.decl.core.0 cores)) w.has.acquired in
        let some = any-there (takes_elsewhere q.setup.decl l.0) rs i (summary_of w.side.setup) (sum-there h.sides i w.side w.there) elsewhere in
        let none = no-held h.place rs rs shut.held j (summary_of q.setup) (sum-there h.sides j q found.1) in
        let test : ℕ → Bool = λ n. is_held (alone q.setup).state.held n && list_any (takes_elsewhere q.setup.decl n) rs in
        both-ways (test l.0) (no-lock test l.0 none w.low) (and_from (is_held (alone q.setup).state.held l.0) (list_any (takes_elsewhere q.setup.decl l.0) rs) holds' some)

pub phase-answers : (P : ProgramParts) (fuel : ℕ) (common : Common) (F : Flat) → (h : InPhase P fuel common F) → open_of h.place (summaries P fuel h.phase h.first) ≡ None
phase-answers P fuel common F h =
    answer-shut (open_of h.place (summaries P fuel h.phase h.first)) (list_all has_ended_well (summaries P fuel h.phase h.first)) _ _ common h.answers

have-ended : (P : ProgramParts) (fuel : ℕ) (common : Common) (gs : List Grant) (F : Flat) → (h : InPhase P fuel common F) → so_far P fuel gs ≡ Some F → grants_are_whole P fuel F ≡ true → HaveEnded F.tasks
have-ended P fuel common gs F h leads whole i r there runs =
    let shut : IsShut h.place (sums h.sides) =
    subst (IsShut h.place) (are-sums P fuel h.phase h.first h.sides h.stand.are) (phase-shut h.place (summaries P fuel h.phase h.first) (phase-answers P fuel common F h)) in
    nobody-waits P fuel F.tasks (rank (sums h.sides)) (are-ranked P fuel common F h shut) (λ j q at' going. run-held_up P fuel gs F leads whole j q at' going) i r there runs

-- ---- no phase can begin

granted-last : (P : ProgramParts) (fuel : ℕ) (g : Grant) (F G : Flat) (o : Option ℕ) → granted_at P fuel F o ≡ Some G → next_phase P G ≡ None
granted-last P fuel g F G None e = absurd (none-some G e)
granted-last P fuel g F G (Some i) e =
    let to : Flat = resumed P fuel F i (slice_get F.tasks i) in
    subst (λ (x : Flat). next_phase P x ≡ None) (same_Some (settled P fuel to) G e) (settled-last P fuel to)

granted-rests : (P : ProgramParts) (fuel : ℕ) (o : Option Flat) (g : Grant) (G : Flat) → granted_if P fuel o g ≡ Some G → next_phase P G ≡ None
unfolding granted
granted-rests P fuel None g G e = absurd (none-some G e)
granted-rests P fuel (Some F) g G e = granted-last P fuel g F G _ e

grants-rest : (P : ProgramParts) (fuel : ℕ) (o : Option Flat) (gs : List Grant) → ((F : Flat) → o ≡ Some F → next_phase P F ≡ None) → (G : Flat) → grants_from P fuel o gs ≡ Some G → next_phase P G ≡ None
grants-rest P fuel o [] h G e = h G e
grants-rest P fuel o (g ∷ gs) h G e = grants-rest P fuel (granted_if P fuel o g) gs (λ F is. granted-rests P fuel o g F is) G e

opened-rests : (P : ProgramParts) (fuel : ℕ) → next_phase P (initial_flat P fuel) ≡ None
unfolding initial_flat
opened-rests P fuel = settled-last P fuel (initial P)

run-rests : (P : ProgramParts) (fuel : ℕ) (gs : List Grant) (F : Flat) → so_far P fuel gs ≡ Some F → next_phase P F ≡ None
run-rests P fuel gs F e =
    grants-rest P fuel (Some (initial_flat P fuel)) gs (λ G is. subst (λ (x : Flat). next_phase P x ≡ None) (same_Some (initial_flat P fuel) G is) (opened-rests P fuel)) F e

-- ---- the end of a run

-- the answer ends here, with the ends and the memory of this state
record IsLast (P : ProgramParts) (fuel : ℕ) (common : Common) (F : Flat) : Type 0 where
  ends : List TaskEnd
  after : List Value
  answer : settled_with ends after ≡ answer.TheVariants.Settled common
  over : IsOver P fuel F ends after

past-end : {X : Type 0} (xs : List X) (n : ℕ) → length xs ≤ n → drop n xs ≡ []
past-end [] zero high = refl
past-end [] (suc n) high = refl
past-end (x ∷ xs) zero high = absurd (omega arith)
past-end (x ∷ xs) (suc n) high = past-end xs n (omega arith)

boundary-last : (P : ProgramParts) (fuel : ℕ) (common : Common) (F : Flat) → list_all has_finished F.tasks ≡ true → next_phase P F ≡ None → AtBoundary P fuel common F → IsLast P fuel common F
boundary-last P fuel common F done rests h =
    let none : slice_get P.phases F.begun ≡ None = sym (ap (λ (b : Bool). if b then slice_get P.phases F.begun else None) done) ∙ rests in
    let left : drop F.begun P.phases ≡ [] = past-end P.phases F.begun (some_within P.phases F.begun none) in
    record {
      ends = h.ends;
      after = h.first;
      answer = sym (ap (λ (l : List Phase). answer_from P fuel F.begun l h.ends h.first) left) ∙ h.answers;
      over = record { tasks = h.past; count = h.count; words = h.words; small = h.small; between = h.between; stands = h.stands };
    }

phase-last : (P : ProgramParts) (fuel : ℕ) (common : Common) (F : Flat) → (h : InPhase P fuel common F) → HaveEnded F.tasks → next_phase P F ≡ None → IsLast P fuel common F
phase-last P fuel common F h over rests = by_test (list_all has_finished F.tasks) refl
  where
    rs : List Summary
    rs = summaries P fuel h.phase h.first

    now : List TaskEnd
    now = h.ends ++ map (end_alone h.place) rs

    after : List Value
    after = after_from 0 rs h.first

    by_test : (b : Bool) → list_all has_finished F.tasks ≡ b → IsLast P fuel common F
    by_test true done = boundary-last P fuel common F done rests (phase-passed P fuel common F done h)
    by_test false done =
        let later : Outcomes = answer_from P fuel (h.place + 1) h.left now after in
        let well : list_all has_ended_well rs ≡ false =
        ap (list_all has_ended_well) (are-sums P fuel h.phase h.first h.sides h.stand.are) ∙ sums-finished h.sides (sides-ended P fuel common F h over) ∙ ap (list_all has_finished) h.runs ∙ done in
        let goes : answer_from P fuel h.place (h.phase ∷ h.left) h.ends h.first ≡ settled_with now after =
        ap (λ (o : Option Open). answer_by o (list_all has_ended_well rs) (settled_with now after) later) (phase-answers P fuel common F h)
        ∙ ap (λ (b : Bool). answer_by None b (settled_with now after) later) well in
        record { ends = now; after = after; answer = sym goes ∙ h.answers; over = phase-over P fuel common F h over }

run-last : (P : ProgramParts) (fuel : ℕ) (common : Common) (gs : List Grant) (F : Flat) → IsAnswered P fuel common → so_far P fuel gs ≡ Some F → grants_are_whole P fuel F ≡ true → IsLast P fuel common F
run-last P fuel common gs F a leads whole = by_point (run-holds P fuel common gs F a leads)
  where
    by_point : Holds P fuel common F → IsLast P fuel common F
    by_point (inr h) = phase-last P fuel common F h (have-ended P fuel common gs F h leads whole) (run-rests P fuel gs F leads)
    by_point (inl is) =
        boundary-last P fuel common F (ap (λ (x : Flat). list_all has_finished x.tasks) is) (run-rests P fuel gs F leads) (subst (AtBoundary P fuel common) (sym is) (run-starts P fuel common a))

-- the end of each whole list of grants has what the answer says
pub every-order : (P : ProgramParts) (fuel : ℕ) (common : Common) (gs : List Grant) (e : FlatEnd) → IsAnswered P fuel common → flat_end P fuel gs ≡ Some e → IsCommonTo common e.ending
every-order P fuel common gs e a ends =
    let d : IsEnded P fuel gs e = run-ended P fuel gs e ends in
    let k = run-last P fuel common gs d.last a d.leads d.whole in
    let is : record { outcome = outcome_of k.ends; tasks = k.ends; memory = k.after } ≡ common = same-answer _ common k.answer in
    let tasks : e.ending.tasks ≡ k.ends = d.tasks ∙ k.over.tasks in
    subst (λ (c : Common). IsCommonTo c e.ending) is
    (record {
      outcome = d.outcome ∙ ap outcome_of tasks;
      tasks = tasks;
      count = ap length d.memory ∙ k.over.words ∙ sym k.over.count;
      words = λ w known'. ap (λ (m : List ℕ). slice_index m w) d.memory ∙ subst (λ c. DenotesBy c (slice_index_or k.after w (known 0)).number (slice_index d.last.memory) (slice_index d.last.memory w)) known' (k.over.stands w);
    })
  where
    same-answer : (x y : Common) → answer.TheVariants.Settled x ≡ answer.TheVariants.Settled y → x ≡ y
    same-answer x y e = cc

-- ---- no run is stuck

all-ended : (P : ProgramParts) (fuel : ℕ) (common : Common) (gs : List Grant) (F : Flat) → IsAnswered P fuel common → so_far P fuel gs ≡ Some F → grants_are_whole P fuel F ≡ true → HaveEnded F.tasks
all-ended P fuel common gs F a leads whole = by_point (run-holds P fuel common gs F a leads)
  where
    by_point : Holds P fuel common F → HaveEnded F.tasks
    by_point (inr h) = have-ended P fuel common gs F h leads whole
    by_point (inl is) = λ i r there. absurd (none-some r (sym (ap (λ (x : Flat). slice_get x.tasks i) is) ∙ there))

pub never-stuck : (P : ProgramParts) (fuel : ℕ) (common : Common) (gs : List Grant) (e : FlatEnd) → IsAnswered P fuel common → flat_end P fuel gs ≡ Some e → e.ending.outcome ≢ outcome.TheVariants.Stuck
never-stuck P fuel common gs e a ends stuck =
    let d : IsEnded P fuel gs e = run-ended P fuel gs e ends in
    let is : flat_end_of P fuel d.last ≡ e = same_Some _ _ (sym (whole-ends P fuel gs d.last d.leads d.whole) ∙ ends) in
    let one = run-waiter P fuel gs d.last d.leads (ap (λ (x : FlatEnd). x.ending.outcome) is ∙ stuck) in
    let there : slice_get d.last.tasks one.0 ≡ Some one.1 = slice_get_read d.last.tasks (length d.last.tasks) one.0 one.1 refl one.2 (sym one.3) in
    all-ended P fuel common gs d.last a d.leads d.whole one.0 one.1 there one.4
