-- A task that runs alone, with the values that its loads had in a run, comes to the state in which it stands in the run.
use Rattle.std.proofs.Common.{◌≡◌, ◌<◌, ◌≤◌, ℕ, zero, suc, ◌+◌, ◌-◌, Bool, true, false, if◌then◌else◌, nat_lt, List, [], ◌∷◌, ◌++◌, length, map, take, slice_get, slice_index, Option, Some, None, option_map, Result, Ok, Err, IfOk, refl, sym, ap, ◌∙◌, append_assoc, length-append, arith}
use Rattle.std.specs.List.{All}
use Rattle.std.proofs.lemmas.Bool.Decides.{nat_tests}
use Rattle.std.proofs.lemmas.List.{append-nil}
use Rattle.std.proofs.lemmas.Option.{none-some}
use Rattle.std.proofs.lemmas.List.Elements.{All-append, All-head, All-tail}
use Rattle.dn_base.specs.declared.failure.Memory.{Memory}
use Rattle.dn_base.specs.declared.ids.Grant.{Grant}
use Rattle.dn_base.specs.declared.ids.LoadSeen.{LoadSeen}
use Rattle.region_table.specs.Program.{ProgramParts, tasks_of}
use Rattle.region_table.specs.declared.declared.Phase.{Phase}
use Rattle.region_table.specs.declared.declared.TaskDecl.{TaskDecl}
use Rattle.rv_core.specs.declared.task.TaskState.{TaskState}
use Rattle.rv_core.specs.declared.task.End.{End}
use Rattle.rv_core.specs.declared.task.End as cause
use Rattle.rv_core.specs.declared.need.Need.{Need}
use Rattle.rv_core.specs.declared.need.Need as need
use Rattle.rv_core.specs.Kinds.{IsAdvance}
use Rattle.rv_core.specs.Need.{need_of}
use Rattle.rv_core.specs.Step.{advanced, loaded_of}
use Rattle.rv_core.specs.Task.{stopped}
use Rattle.flat_machine.specs.declared.ending.FlatEnd.{FlatEnd}
use Rattle.flat_machine.specs.declared.ending.TaskLoads.{TaskLoads}
use Rattle.flat_machine.specs.Step.{Started, At, wish, wish_unless, in_state, step_by, flat_step, WantsLock}
use Rattle.flat_machine.specs.Phases.{Flat, all_tasks}
use Rattle.flat_machine.specs.Grants.{so_far, grants_are_whole}
use Rattle.flat_machine.specs.Ending.{task_end, task_loads, flat_end_of, whole_only, flat_end}
use Rattle.flat_machine.specs.Laws.{HasTasks}
use Rattle.flat_machine.proofs.Rest.{advanced-more, loaded-more, wish-open}
use Rattle.flat_machine.proofs.Rights.{wish-need}
use Rattle.flat_machine.proofs.CauseLemmas.{acquire-advances, run-ended}
use Rattle.flat_machine.proofs.KeptLaws.{run-kept}
use Rattle.flat_machine.proofs.ReachedLaws.{reached-tasks}
use Rattle.sentences.specs.declared.stopping.Stop.{Stop}
use Rattle.sentences.specs.Stops.{LoneTask, lone_by, lone_step, lone_steps, task_in, pc_of, stops_from, stops_at_end, stop_of, stops_in, stops_by}

-- ---- a task alone

module _ (P : ProgramParts) (fuel : ℕ) where
  abbrev at : TaskState → List LoadSeen → LoneTask
  at t ls = record { state = t; loads = ls }

  -- alone, with its loads and more to come, the task comes to its state after the instructions that it has retired. Where it has
  -- ended, the instruction that ended it is the next one
  record Replays (r : Started) : Type 0 where
    pc : (ls : List LoadSeen) → (lone_steps P r.decl fuel (r.loads ++ ls) r.state.retired).state.pc ≡ r.state.pc
    open' : r.state.end ≡ None → (ls : List LoadSeen) → lone_steps P r.decl fuel (r.loads ++ ls) r.state.retired ≡ at r.state ls

  one-more : (n : ℕ) → n + 1 ≡ suc n
  one-more n = omega arith

  advances : (a : LoneTask) (n : Need) → IsAdvance n → lone_by P a n ≡ at (advanced P a.state) a.loads
  advances a need.TheVariants.Local k = refl
  advances a (need.TheVariants.Load word) k = absurd k
  advances a (need.TheVariants.Store word whole) k = refl
  advances a (need.TheVariants.Acquire lock) k = refl
  advances a (need.TheVariants.Release lock) k = refl
  advances a (need.TheVariants.End by) k = absurd k

  -- the step after the instructions so far
  next-is : (r : Started) (n : Need) (ls : List LoadSeen) → wish P fuel r ≡ Some n → Replays r
      → lone_steps P r.decl fuel (r.loads ++ ls) (suc r.state.retired) ≡ lone_by P (at r.state ls) n
  next-is r n ls e q =
      ap (lone_step P r.decl fuel) (q.open' (wish-open P fuel r n e) ls) ∙ ap (lone_by P (at r.state ls)) (wish-need P fuel r n e)

  advanced-kept : (r : Started) (n : Need) → IsAdvance n → wish P fuel r ≡ Some n → Replays r → Replays (in_state r (advanced P r.state))
  advanced-kept r n k e q = record { pc = λ ls. ap (λ (a : LoneTask). a.state.pc) (goes ls); open' = λ o ls. goes ls } where
    goes : (ls : List LoadSeen) → lone_steps P r.decl fuel (r.loads ++ ls) (advanced P r.state).retired ≡ at (advanced P r.state) ls
    goes ls =
        ap (lone_steps P r.decl fuel (r.loads ++ ls)) ((advanced-more P fuel r n k e).retired ∙ one-more r.state.retired)
        ∙ next-is r n ls e q
        ∙ advances (at r.state ls) n k

  loaded-kept : (r : Started) (n : Need) (seen : LoadSeen) → n ≡ need.TheVariants.Load seen.word → wish P fuel r ≡ Some n → Replays r
      → Replays (record r { state = loaded_of P seen.value r.state; loads = r.loads ++ seen ∷ [] })
  loaded-kept r n seen is e q = record { pc = λ ls. ap (λ (a : LoneTask). a.state.pc) (goes ls); open' = λ o ls. goes ls } where
    load : wish P fuel r ≡ Some (need.TheVariants.Load seen.word)
    load = e ∙ ap (λ (m : Need). Some m) is

    goes : (ls : List LoadSeen) → lone_steps P r.decl fuel ((r.loads ++ seen ∷ []) ++ ls) (loaded_of P seen.value r.state).retired ≡ at (loaded_of P seen.value r.state) ls
    goes ls =
        ap (λ (xs : List LoadSeen). lone_steps P r.decl fuel xs (loaded_of P seen.value r.state).retired) (append_assoc r.loads (seen ∷ []) ls)
        ∙ ap (lone_steps P r.decl fuel (r.loads ++ seen ∷ ls)) ((loaded-more P fuel r seen.value (need.TheVariants.Load seen.word) tt load).retired ∙ one-more r.state.retired)
        ∙ next-is r (need.TheVariants.Load seen.word) (seen ∷ ls) load q

  stopped-kept : (r : Started) (by : End) → wish P fuel r ≡ Some (need.TheVariants.End by) → Replays r → Replays (in_state r (stopped by r.state))
  stopped-kept r cause.TheVariants.Finished e q = record {
    pc = λ ls. ap (λ (n : ℕ). (lone_steps P r.decl fuel (r.loads ++ ls) n).state.pc) (one-more r.state.retired)
        ∙ ap (λ (a : LoneTask). a.state.pc) (next-is r (need.TheVariants.End cause.TheVariants.Finished) ls e q);
    open' = λ o ls. absurd (cc);
  }
  stopped-kept r cause.TheVariants.Fuel e q = record { pc = q.pc; open' = λ o ls. absurd (cc) }
  stopped-kept r (cause.TheVariants.Trap kind pc value) e q = record { pc = q.pc; open' = λ o ls. absurd (cc) }

  step-kept : (s : At) → Replays s.task → Replays (flat_step P fuel s).task
  step-kept s q = by_wish (wish P fuel s.task) refl
    where
      by_wish : (o : Option Need) → wish P fuel s.task ≡ o → Replays (step_by P s o).task
      by_wish None e = q
      by_wish (Some (need.TheVariants.Acquire lock)) e = q
      by_wish (Some need.TheVariants.Local) e = advanced-kept s.task need.TheVariants.Local tt e q
      by_wish (Some (need.TheVariants.Load word)) e =
          loaded-kept s.task (need.TheVariants.Load word) (record { word = word; value = slice_index s.memory word.0 }) refl e q
      by_wish (Some (need.TheVariants.Store word whole)) e = advanced-kept s.task (need.TheVariants.Store word whole) tt e q
      by_wish (Some (need.TheVariants.Release lock)) e = advanced-kept s.task (need.TheVariants.Release lock) tt e q
      by_wish (Some (need.TheVariants.End by)) e = stopped-kept s.task by e q

  acquired-kept : (r : Started) → WantsLock P fuel r → Replays r → Replays (in_state r (advanced P r.state))
  acquired-kept r w q =
      let n : Need = need_of P r.decl fuel r.state in
      advanced-kept r n (acquire-advances n w.wants) (ap (wish_unless P fuel r) w.open') q

  all-replay : (gs : List Grant) (F : Flat) → so_far P fuel gs ≡ Some F → All Replays (all_tasks F)
  all-replay gs F e =
      let kept = run-kept P fuel Replays (λ m. Unit {0}) (record {
        memory = tt;
        starts = λ k p d there among. record { pc = λ ls. refl; open' = λ o ls. refl };
        steps = λ s q m. (step-kept s q, tt);
        acquires = acquired-kept;
      }) gs F e in
      All-append Replays F.past F.tasks kept.past kept.tasks

  -- ---- the tasks of a run, by their numbers

  got-left : {X : Type 0} (xs ys : List X) (n : ℕ) → n < length xs → slice_get (xs ++ ys) n ≡ slice_get xs n
  got-left [] ys n low = absurd (omega arith)
  got-left (x ∷ xs) ys zero low = refl
  got-left (x ∷ xs) ys (suc n) low = got-left xs ys n (omega arith)

  got-right : {X : Type 0} (xs ys : List X) (n : ℕ) → length xs ≤ n → slice_get (xs ++ ys) n ≡ slice_get ys (n - length xs)
  got-right [] ys n low = let same : n ≡ n - 0 = omega arith in ap (slice_get ys) same
  got-right (x ∷ xs) ys zero low = absurd (omega arith)
  got-right (x ∷ xs) ys (suc n) low =
      let same : n - length xs ≡ suc n - suc (length xs) = omega arith in got-right xs ys n (omega arith) ∙ ap (slice_get ys) same

  below : (n k : ℕ) → nat_lt n k ≡ true → n < k
  below n k e = grind (arith, nat_tests)

  above : (n k : ℕ) → nat_lt n k ≡ false → k ≤ n
  above n k e = grind (arith, nat_tests)

  got-append : {X : Type 0} (xs ys : List X) (n : ℕ) → slice_get (xs ++ ys) n ≡ (if nat_lt n (length xs) then slice_get xs n else slice_get ys (n - length xs))
  got-append {X} xs ys n = by (nat_lt n (length xs)) refl
    where
      by : (b : Bool) → nat_lt n (length xs) ≡ b → slice_get (xs ++ ys) n ≡ (if b then slice_get xs n else slice_get ys (n - length xs))
      by true e = got-left xs ys n (below n (length xs) e)
      by false e = got-right xs ys n (above n (length xs) e)

  task-in : (ps : List Phase) (n : ℕ) → task_in ps n ≡ slice_get (tasks_of ps) n
  task-in [] n = refl
  task-in (p ∷ ps) n =
      ap (λ (o : Option TaskDecl). if nat_lt n (length p.tasks) then slice_get p.tasks n else o) (task-in ps (n - length p.tasks))
      ∙ sym (got-append p.tasks (tasks_of ps) n)

  front-tasks : (k : ℕ) (ps : List Phase) (n : ℕ) (d : TaskDecl) → slice_get (tasks_of (take k ps)) n ≡ Some d → slice_get (tasks_of ps) n ≡ Some d
  front-tasks zero ps n d e = absurd (none-some d e)
  front-tasks (suc k) [] n d e = e
  front-tasks (suc k) (p ∷ ps) n d e =
      got-append p.tasks (tasks_of ps) n
      ∙ by (nat_lt n (length p.tasks)) (sym (got-append p.tasks (tasks_of (take k ps)) n) ∙ e) (λ h. front-tasks k ps (n - length p.tasks) d h)
    where
      by : (b : Bool) → (if b then slice_get p.tasks n else slice_get (tasks_of (take k ps)) (n - length p.tasks)) ≡ Some d
          → (slice_get (tasks_of (take k ps)) (n - length p.tasks) ≡ Some d → slice_get (tasks_of ps) (n - length p.tasks) ≡ Some d)
          → (if b then slice_get p.tasks n else slice_get (tasks_of ps) (n - length p.tasks)) ≡ Some d
      by true h rest = h
      by false h rest = rest h

  got-map : {X Y : Type 0} (f : X → Y) (xs : List X) (n : ℕ) (x : X) → slice_get xs n ≡ Some x → slice_get (map f xs) n ≡ Some (f x)
  got-map f [] n x e = absurd (none-some x e)
  got-map f (y ∷ ys) zero x e = ap (option_map f) e
  got-map f (y ∷ ys) (suc n) x e = got-map f ys n x e

  got-middle : {X : Type 0} (before : List X) (x : X) (xs : List X) → slice_get (before ++ x ∷ xs) (length before) ≡ Some x
  got-middle [] x xs = refl
  got-middle (b ∷ bs) x xs = got-middle bs x xs

  module _ (F : Flat) (tasks : HasTasks P F) where
    decl-at : (n : ℕ) (r : Started) → slice_get (all_tasks F) n ≡ Some r → task_in P.phases n ≡ Some r.decl
    decl-at n r e =
        task-in P.phases n
        ∙ front-tasks F.begun P.phases n r.decl
        (ap (λ (ds : List TaskDecl). slice_get ds n) (sym tasks.all) ∙ got-map (λ (r : Started). r.decl) (all_tasks F) n r e)

    pc-at : (n : ℕ) (r : Started) → slice_get (all_tasks F) n ≡ Some r → Replays r
        → pc_of P fuel r.state.retired (task_in P.phases n) (slice_get (map task_loads (all_tasks F)) n) ≡ r.state.pc
    pc-at n r e q =
        ap (λ (o : Option TaskDecl). pc_of P fuel r.state.retired o (slice_get (map task_loads (all_tasks F)) n)) (decl-at n r e)
        ∙ ap (pc_of P fuel r.state.retired (Some r.decl)) (got-map task_loads (all_tasks F) n r e)
        ∙ ap (λ (ls : List LoadSeen). (lone_steps P r.decl fuel ls r.state.retired).state.pc) (sym (append-nil r.loads))
        ∙ q.pc []

    from-there : (rs before : List Started) → all_tasks F ≡ before ++ rs → All Replays rs
        → stops_from P fuel (map task_loads (all_tasks F)) (length before) (map (task_end P fuel) rs) ≡ map (stop_of P fuel) rs
    from-there [] before is all = refl
    from-there (r ∷ rs) before is all =
        let here : slice_get (all_tasks F) (length before) ≡ Some r = ap (λ (l : List Started). slice_get l (length before)) is ∙ got-middle before r rs in
        let pc = pc-at (length before) r here (All-head Replays r rs all) in
        let longer : length (before ++ r ∷ []) ≡ length before + 1 = length-append before (r ∷ []) in
        let rest = from-there rs (before ++ r ∷ []) (is ∙ sym (append_assoc before (r ∷ []) rs)) (All-tail Replays r rs all) in
        ap (λ (n : ℕ). stop_there n ∷ stops_from P fuel (map task_loads (all_tasks F)) (length before + 1) (map (task_end P fuel) rs)) pc
        ∙ ap (λ (l : List Stop). stop_of P fuel r ∷ l)
        (ap (λ (n : ℕ). stops_from P fuel (map task_loads (all_tasks F)) n (map (task_end P fuel) rs)) (sym longer) ∙ rest)
      where
        stop_there : ℕ → Stop
        stop_there n = record { end = task_end P fuel r; pc = n }

  -- ---- a run

  whole-stops : (F : Flat) → grants_are_whole P fuel F ≡ true → stops_in P fuel (Some F) ≡ Some (map (stop_of P fuel) (all_tasks F))
  whole-stops F whole = ap (λ (b : Bool). if b then Some (map (stop_of P fuel) (all_tasks F)) else None) whole

  pub stops-whole : (gs : List Grant) (e : FlatEnd) → flat_end P fuel gs ≡ Some e → Some (stops_from P fuel e.loads 0 e.ending.tasks) ≡ stops_by P fuel gs
  unfolding stops_by
  stops-whole gs e is =
      let ended = run-ended P fuel gs e is in
      let F = ended.last in
      let found = from-there F (reached-tasks P fuel gs F ended.leads) (all_tasks F) [] refl (all-replay gs F ended.leads) in
      ap (λ (l : List Stop). Some l)
      (ap (λ (ls : List TaskLoads). stops_from P fuel ls 0 e.ending.tasks) ended.loads
      ∙ ap (stops_from P fuel (map task_loads (all_tasks F)) 0) ended.tasks ∙ found)
      ∙ sym (ap (stops_in P fuel) ended.leads ∙ whole-stops F ended.whole)

  pub stops-refused : (gs : List Grant) → flat_end P fuel gs ≡ None → None ≡ stops_by P fuel gs
  unfolding stops_by flat_end
  stops-refused gs is = by (so_far P fuel gs) is
    where
      by : (o : Option Flat) → whole_only P fuel o ≡ None → None ≡ stops_in P fuel o
      by None e = refl
      by (Some F) e = by_whole (grants_are_whole P fuel F) e
        where
          by_whole : (b : Bool) → (if b then Some (flat_end_of P fuel F) else None) ≡ None → None ≡ (if b then Some (map (stop_of P fuel) (all_tasks F)) else None)
          by_whole true e = absurd (none-some _ (sym e))
          by_whole false e = refl

  stops-are : (gs : List Grant) (o : Option FlatEnd) → flat_end P fuel gs ≡ o → stops_at_end P fuel o ≡ stops_by P fuel gs
  stops-are gs None is = stops-refused gs is
  stops-are gs (Some e) is = stops-whole gs e is

  pub stops-told : (gs : List Grant) (end' : Option FlatEnd) → end' ≡ flat_end P fuel gs → (r : Result (Option (List Stop)) Memory)
      → IfOk r (λ found. found ≡ stops_at_end P fuel end') → IfOk r (λ found. found ≡ stops_by P fuel gs)
  stops-told gs end' is (Ok found) h = h ∙ stops-are gs end' (sym is)
  stops-told gs end' is (Err e) h = tt
