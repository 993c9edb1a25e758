-- The tasks of a phase, one after the other.
use Rattle.std.proofs.Common.{◌≡◌, ◌<◌, ◌≤◌, ◌+◌, ◌*◌, ℕ, Bool, true, false, if◌then◌else◌, List, [], ◌∷◌, ◌++◌, length, drop, get_or, slice_get, sum_by, Option, Some, None, refl, sym, ap, ◌∙◌, append_assoc, length-append, length-drop, arith}
use Rattle.std.specs.List.{All, list_all}
use Rattle.std.proofs.lemmas.Grind.{common_steps}
use Rattle.std.proofs.lemmas.List.{at_drop_more, drop_more}
use Rattle.std.proofs.lemmas.Option.{none-some, slice_get_within, get_or_from_slice_get, gets}
use Rattle.region_table.specs.Program.{ProgramParts, tasks_of}
use Rattle.region_table.specs.declared.declared.TaskDecl.{TaskDecl}
use Rattle.region_table.specs.declared.declared.Phase.{Phase}
use Rattle.flat_machine.specs.Step.{Started, At, fresh, segment, room, IsWithin}
use Rattle.flat_machine.specs.Phases.{Flat, Ran, ran_first, run_all, begin, has_finished, next_phase, settle, settled, work, IsSoundFlat}

-- these tasks, and then those that ran
abbrev pub with_front : List Started → Ran → Ran
with_front done rest = record { tasks = done ++ rest.tasks; memory = rest.memory }

joined : (done : List Started) (r : Started) (rest : Ran) → with_front (done ++ r ∷ []) rest ≡ with_front done (ran_first r rest)
joined done r rest =
    let with_tasks : List Started → Ran = λ ts. record { tasks = ts; memory = rest.memory } in
    let e : (done ++ r ∷ []) ++ rest.tasks ≡ done ++ (r ∷ rest.tasks) = rw append_assoc in
    ap with_tasks e

-- one more task runs
pub run-more : (P : ProgramParts) (fuel phase i : ℕ) (ds : List TaskDecl) (d : TaskDecl) (m : List ℕ) (done : List Started) (s : At) → i < length ds
    → s ≡ segment P fuel (record { task = fresh phase (get_or ds i d); memory = m })
    → with_front (done ++ s.task ∷ []) (run_all P fuel phase (drop (i + 1) ds) s.memory) ≡ with_front done (run_all P fuel phase (drop i ds) m)
run-more P fuel phase i ds d m done s within e =
    let rest : List ℕ → Ran = run_all P fuel phase (drop (i + 1) ds) in
    let first : At → Ran = λ x. with_front done (ran_first x.task (rest x.memory)) in
    let all : List TaskDecl → Ran = λ ts. with_front done (run_all P fuel phase ts m) in
    joined done s.task (rest s.memory) ∙ ap first e ∙ sym (at_drop_more all ds i d within)

-- ---- the next phase

pub cond-some : {X : Type 0} (b : Bool) (o : Option X) (x : X) → (if b then o else None) ≡ Some x → (b ≡ true) × (o ≡ Some x)
cond-some true o x e = (refl, e)
cond-some false o x e = absurd (none-some x e)

pub some_within : {X : Type 0} (xs : List X) (i : ℕ) → slice_get xs i ≡ None → length xs ≤ i
some_within xs i none = grind (arith, common_steps, gets)

-- the next phase and the phases behind it are those that are left
pub left-of : (P : ProgramParts) (F : Flat) (phase : Phase) → next_phase P F ≡ Some phase → drop F.begun P.phases ≡ phase ∷ drop (F.begun + 1) P.phases
left-of P F phase e =
    let there = (cond-some (list_all has_finished F.tasks) (slice_get P.phases F.begun) phase e).1 in
    let within : F.begun < length P.phases = slice_get_within P.phases F.begun phase there in
    let is : get_or P.phases F.begun phase ≡ phase = get_or_from_slice_get P.phases F.begun phase phase there in
    drop_more P.phases F.begun phase within ∙ ap (λ (p : Phase). p ∷ drop (F.begun + 1) P.phases) is

pub settled-more : (P : ProgramParts) (fuel : ℕ) (F : Flat) (phase : Phase) → next_phase P F ≡ Some phase → settled P fuel F ≡ settled P fuel (begin P fuel phase F)
unfolding begin
settled-more P fuel F phase e =
    let finished = (cond-some (list_all has_finished F.tasks) (slice_get P.phases F.begun) phase e).0 in
    let next = settle P fuel (drop (F.begun + 1) P.phases) (begin P fuel phase F) in
    let choice : Bool → Flat = λ b. if b then next else F in
    ap (λ (left : List Phase). settle P fuel left F) (left-of P F phase e) ∙ ap choice finished

pub settled-still : (P : ProgramParts) (fuel : ℕ) (F : Flat) → next_phase P F ≡ None → settled P fuel F ≡ F
settled-still P fuel F e = by_left (list_all has_finished F.tasks) (drop F.begun P.phases) refl refl e
  where
    by_left : (b : Bool) (left : List Phase) → list_all has_finished F.tasks ≡ b → drop F.begun P.phases ≡ left → (if b then slice_get P.phases F.begun else None) ≡ None → settle P fuel left F ≡ F
    by_left b [] test is none = refl
    by_left false (p ∷ left) test is none =
        let choice : Bool → Flat = λ b. if b then settle P fuel left (begin P fuel p F) else F in
        ap choice test
    by_left true (p ∷ left) test is none =
        let past : length P.phases ≤ F.begun = some_within P.phases F.begun none in
        let short = length-drop F.begun P.phases in
        let more = ap length is in
        absurd (omega arith)

-- ---- what a phase's begin keeps

pub begun-within : (P : ProgramParts) (F : Flat) (phase : Phase) → next_phase P F ≡ Some phase → F.begun < length P.phases
begun-within P F phase e =
    slice_get_within P.phases F.begun phase (cond-some (list_all has_finished F.tasks) (slice_get P.phases F.begun) phase e).1

-- the tasks of the phases that are left are those of the next phase and those behind it
pub count-left : (P : ProgramParts) (F : Flat) (phase : Phase) → next_phase P F ≡ Some phase
    → length (tasks_of (drop F.begun P.phases)) ≡ length phase.tasks + length (tasks_of (drop (F.begun + 1) P.phases))
count-left P F phase e =
    ap (λ (left : List Phase). length (tasks_of left)) (left-of P F phase e) ∙ length-append phase.tasks (tasks_of (drop (F.begun + 1) P.phases))

-- what the code tells of the machine once a phase has begun
pub record HasBegun (P : ProgramParts) (fuel : ℕ) (phase : Phase) (F G : Flat) : Type 0 where
  pub next : next_phase P F ≡ Some phase
  pub value : G ≡ begin P fuel phase F
  pub words : length G.memory ≡ length P.memory
  pub within : All (IsWithin fuel) G.tasks
  pub count : length G.tasks ≡ length phase.tasks
  pub room : sum_by (room fuel) G.tasks ≤ length phase.tasks * (fuel + 1)

pub begin-begun : (P : ProgramParts) (fuel : ℕ) (phase : Phase) (F : Flat) → (begin P fuel phase F).begun ≡ F.begun + 1
unfolding begin
begin-begun P fuel phase F = refl

pub begin-past : (P : ProgramParts) (fuel : ℕ) (phase : Phase) (F : Flat) → (begin P fuel phase F).past ≡ F.past ++ F.tasks
unfolding begin
begin-past P fuel phase F = refl

pub begin-sound : (P : ProgramParts) (fuel : ℕ) (phase : Phase) (F G : Flat) → HasBegun P fuel phase F G → IsSoundFlat P fuel F → IsSoundFlat P fuel G
begin-sound P fuel phase F G h sound =
    let begun : G.begun ≡ F.begun + 1 = ap (λ (x : Flat). x.begun) h.value ∙ begin-begun P fuel phase F in
    let past : length G.past ≡ length F.past + length F.tasks =
    ap (λ (x : Flat). length x.past) h.value ∙ ap length (begin-past P fuel phase F) ∙ length-append F.past F.tasks in
    let left = ap (λ n. length (tasks_of (drop n P.phases))) begun in
    record {
      words = h.words;
      begun = omega (arith, begun-within P F phase h.next);
      within = h.within;
      count = omega (arith, count-left P F phase h.next, sound.count, h.count);
    }

pub begin-work : (P : ProgramParts) (fuel : ℕ) (phase : Phase) (F G : Flat) → HasBegun P fuel phase F G → work P fuel G ≤ work P fuel F
begin-work P fuel phase F G h =
    let begun : G.begun ≡ F.begun + 1 = ap (λ (x : Flat). x.begun) h.value ∙ begin-begun P fuel phase F in
    let left = ap (λ n. length (tasks_of (drop n P.phases)) * (fuel + 1)) begun in
    let all = ap (λ n. n * (fuel + 1)) (count-left P F phase h.next) in
    omega (arith, h.room)
