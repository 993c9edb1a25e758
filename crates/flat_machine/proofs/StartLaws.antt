-- The first segments of a phase of a checked program: each starts from the phase's first memory, as far as its task can tell.
use Rattle.std.proofs.Common.{◌≡◌, ℕ, zero, suc, ◌<◌, true, false, List, [], ◌∷◌, length, map, get_or, slice_index, refl, sym, ap, ◌∙◌, subst, arith}
use Rattle.std.specs.List.{All, AllPairs, IsAmong}
use Rattle.std.proofs.lemmas.Bool.{false≢true}
use Rattle.region_table.specs.Program.{ProgramParts}
use Rattle.region_table.specs.declared.declared.TaskDecl.{TaskDecl}
use Rattle.region_table.specs.declared.declared.Phase.{Phase}
use Rattle.rv_core.specs.Access.{is_held, may_store}
use Rattle.effect_checker.specs.Checked.{IsChecked}
use Rattle.flat_machine.specs.Step.{Started, At, fresh}
use Rattle.flat_machine.specs.Phases.{run_all}
use Rattle.flat_machine.specs.Laws.{AreCoresRising, at_memory, first_segment, StartAlone}
use Rattle.flat_machine.proofs.InOrder.{known-order}
use Rattle.flat_machine.proofs.Rights.{store-loads}
use Rattle.flat_machine.proofs.Frames.{Agree, KeepsOut, segment-frame, segment-alike, segment-size, agree-after, no-store}
use Rattle.flat_machine.proofs.Separation.{keeps-out}

-- each of two tasks keeps out of what the other may load
record BothKeepOut (phase : ℕ) (a b : TaskDecl) : Type 0 where
  first : KeepsOut (fresh phase a) (fresh phase b)
  second : KeepsOut (fresh phase b) (fresh phase a)

-- the head keeps out of the others, and they of each other
heads : (phase : ℕ) (d : TaskDecl) (ds : List TaskDecl) → AllPairs (BothKeepOut phase) (d ∷ ds) → All (BothKeepOut phase d) ds
heads phase d ds h k e within = h 0 (suc k) e (omega arith) (omega arith)

tails : (phase : ℕ) (d : TaskDecl) (ds : List TaskDecl) → AllPairs (BothKeepOut phase) (d ∷ ds) → AllPairs (BothKeepOut phase) ds
tails phase d ds h i j e before within = h (suc i) (suc j) e (omega arith) (omega arith)

-- what each of these tasks may load is the same in both memories
abbrev CanTell : ℕ → List TaskDecl → List ℕ → List ℕ → Type 0
CanTell phase ds n m = All (λ (d : TaskDecl). Agree (fresh phase d) n m) ds

-- after the first task's segment the others still see the memory m
still-sees : (P : ProgramParts) (fuel phase : ℕ) (d : TaskDecl) (ds : List TaskDecl) (n m : List ℕ) → AllPairs (BothKeepOut phase) (d ∷ ds) → CanTell phase (d ∷ ds) n m
    → CanTell phase ds (first_segment P fuel phase n d).memory m
still-sees P fuel phase d ds n m apart agree k e within =
    let other : TaskDecl = get_or ds k e in
    let after : Agree (fresh phase other) (first_segment P fuel phase n d).memory n = agree-after P fuel (fresh phase d) (fresh phase other) n (heads phase d ds apart k e within).first in
    let before : Agree (fresh phase other) n m = agree (suc k) e (omega arith) in
    record { on = λ w may. after.on w may ∙ before.on w may }

size-after : (P : ProgramParts) (fuel phase : ℕ) (d : TaskDecl) (n : List ℕ) → length n ≡ length P.memory → length (first_segment P fuel phase n d).memory ≡ length P.memory
size-after P fuel phase d n in_n = segment-size P fuel (fresh phase d) n in_n

run-each : (P : ProgramParts) (fuel phase : ℕ) (ds : List TaskDecl) (n m : List ℕ) → length n ≡ length P.memory → length m ≡ length P.memory → AllPairs (BothKeepOut phase) ds → CanTell phase ds n m
    → (run_all P fuel phase ds n).tasks ≡ map (λ (d : TaskDecl). (first_segment P fuel phase m d).task) ds
run-each P fuel phase [] n m in_n in_m apart agree = refl
run-each P fuel phase (d ∷ ds) n m in_n in_m apart agree =
    let s : At = first_segment P fuel phase n d in
    let one = segment-alike P fuel (fresh phase d) n m in_n in_m (agree 0 d (omega arith)) in
    let rest = run-each P fuel phase ds s.memory m (size-after P fuel phase d n in_n) in_m (tails phase d ds apart) (still-sees P fuel phase d ds n m apart agree) in
    ap (λ (t : Started). t ∷ (run_all P fuel phase ds s.memory).tasks) one.task
    ∙ ap (λ (ts : List Started). (first_segment P fuel phase m d).task ∷ ts) rest

-- a word that none of the tasks may store
run-frame : (P : ProgramParts) (fuel phase : ℕ) (ds : List TaskDecl) (n : List ℕ) (w : ℕ) → All (λ (d : TaskDecl). may_store d 0 w ≡ false) ds
    → slice_index (run_all P fuel phase ds n).memory w ≡ slice_index n w
run-frame P fuel phase [] n w none = refl
run-frame P fuel phase (d ∷ ds) n w none =
    run-frame P fuel phase ds (first_segment P fuel phase n d).memory w (λ k e within. none (suc k) e (omega arith))
    ∙ segment-frame P fuel (at_memory (fresh phase d) n) w (none 0 d (omega arith))

run-size : (P : ProgramParts) (fuel phase : ℕ) (ds : List TaskDecl) (n : List ℕ) → length n ≡ length P.memory → length (run_all P fuel phase ds n).memory ≡ length P.memory
run-size P fuel phase [] n in_n = in_n
run-size P fuel phase (d ∷ ds) n in_n = run-size P fuel phase ds (first_segment P fuel phase n d).memory (size-after P fuel phase d n in_n)

-- a word that one of the tasks may store
run-stored : (P : ProgramParts) (fuel phase : ℕ) (ds : List TaskDecl) (n m : List ℕ) (i : ℕ) (d : TaskDecl) (w : ℕ) → length n ≡ length P.memory → length m ≡ length P.memory
    → AllPairs (BothKeepOut phase) ds → CanTell phase ds n m → i < length ds → d ≡ get_or ds i d → may_store d 0 w ≡ true
    → slice_index (run_all P fuel phase ds n).memory w ≡ slice_index (first_segment P fuel phase m d).memory w
run-stored P fuel phase [] n m i d w in_n in_m apart agree within is may = absurd (omega arith)
run-stored P fuel phase (x ∷ ds) n m zero d w in_n in_m apart agree within is may =
    let s : At = first_segment P fuel phase n x in
    let stores : may_store x 0 w ≡ true = subst (λ (y : TaskDecl). may_store y 0 w ≡ true) is may in
    let others : All (λ (y : TaskDecl). may_store y 0 w ≡ false) ds =
    λ k e inside. no-store (fresh phase x) (fresh phase (get_or ds k e)) w (heads phase x ds apart k e inside).first stores in
    let same = agree 0 x (omega arith) in
    let alike = segment-alike P fuel (fresh phase x) n m in_n in_m same in
    run-frame P fuel phase ds s.memory w others
    ∙ alike.kept w (same.on w (store-loads x 0 w stores))
    ∙ ap (λ (y : TaskDecl). slice_index (first_segment P fuel phase m y).memory w) (sym is)
run-stored P fuel phase (x ∷ ds) n m (suc i) d w in_n in_m apart agree within is may =
    run-stored P fuel phase ds (first_segment P fuel phase n x).memory m i d w (size-after P fuel phase x n in_n) in_m (tails phase x ds apart) (still-sees P fuel phase x ds n m apart agree) (omega arith) is may

-- ---- a phase of a checked program

holds-none : (lock : ℕ) → is_held 0 lock ≡ true → ⊥
holds-none lock h = false≢true h

decls-apart : (P : ProgramParts) (p : Phase) (phase : ℕ) → IsChecked P → IsAmong P.phases p → AllPairs (λ (a b : TaskDecl). a.core.0 < b.core.0) p.tasks → AllPairs (BothKeepOut phase) p.tasks
decls-apart P p phase checked among rising i j e before within =
    let a : TaskDecl = get_or p.tasks i e in
    let b : TaskDecl = get_or p.tasks j e in
    let less : a.core.0 < b.core.0 = rising i j e before within in
    let in_i : i < length p.tasks = omega arith in
    let first : IsAmong p.tasks a = (i, (in_i, same-default p.tasks i e in_i)) in
    let second : IsAmong p.tasks b = (j, (within, same-default p.tasks j e within)) in
    record {
      first = keeps-out P p (fresh phase a) (fresh phase b) (record { checked = checked; phase = among; first = first; second = second; cores = λ same. omega arith; held = λ lock x y. holds-none lock x });
      second = keeps-out P p (fresh phase b) (fresh phase a) (record { checked = checked; phase = among; first = second; second = first; cores = λ same. omega arith; held = λ lock x y. holds-none lock x });
    }
  where
    same-default : (xs : List TaskDecl) (k : ℕ) (e : TaskDecl) → k < length xs → get_or xs k e ≡ get_or xs k (get_or xs k e)
    same-default [] k e inside = absurd (omega arith)
    same-default (x ∷ xs) zero e inside = refl
    same-default (x ∷ xs) (suc k) e inside = same-default xs k e (omega arith)

pub start-alone : (P : ProgramParts) (fuel phase : ℕ) (p : Phase) (m : List ℕ) → AreCoresRising P → IsChecked P → IsAmong P.phases p → length m ≡ length P.memory → StartAlone P fuel phase p.tasks m
start-alone P fuel phase p m order checked among in_m =
    let apart = decls-apart P p phase checked among (known-order P p order among) in
    let same : CanTell phase p.tasks m m = λ k e within. record { on = λ w may. refl } in
    record {
      each = run-each P fuel phase p.tasks m m in_m in_m apart same;
      words = run-size P fuel phase p.tasks m in_m ∙ sym in_m;
      stored = λ d w in_tasks may. run-stored P fuel phase p.tasks m m in_tasks.0 d w in_m in_m apart same in_tasks.1.0 in_tasks.1.1 may;
      kept = λ w none. run-frame P fuel phase p.tasks m w none;
    }
