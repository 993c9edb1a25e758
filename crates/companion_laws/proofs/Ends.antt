-- The lines of a run that the flat machine has by its grants: of its tasks, its data words and its grants.
use Rattle.std.proofs.Common.{◌≡◌, ◌≢◌, ℕ, suc, ◌+◌, ◌*◌, ◌%◌, ◌^◌, ◌<◌, ◌≤◌, ◌==◌, Bool, true, false, if◌then◌else◌, List, [], ◌∷◌, ◌++◌, map, find, take, drop, length, sum, slice_get, Option, Some, None, is_some, refl, sym, ap, subst, ◌∙◌, arith, append_assoc, length-append}
use Rattle.std.specs.List.{All, IsAmong}
use Rattle.std.proofs.lemmas.Bool.{and_from, lt-ltb, eq-eqb, eqb-false}
use Rattle.std.proofs.lemmas.Grind.{flat_map-append}
use Rattle.std.proofs.lemmas.List.{length-map, take-append-drop}
use Rattle.std.proofs.lemmas.List.Elements.{All-nil, All-cons, All-append, All-map, All-head, All-tail}
use Rattle.std.proofs.lemmas.List.Sums.{sum_by-cons}
use Rattle.std.proofs.lemmas.Nat.{mod_below}
use Rattle.std.proofs.lemmas.Option.{none-some, slice_get_within}
use Rattle.dn_base.specs.declared.ids.CoreId.{CoreId}
use Rattle.dn_base.specs.declared.ids.Grant.{Grant}
use Rattle.region_table.specs.declared.declared.TaskDecl.{TaskDecl}
use Rattle.region_table.specs.declared.declared.Phase.{Phase}
use Rattle.region_table.specs.Program.{ProgramParts, IsProgram, tasks_of}
use Rattle.region_table.proofs.TaskLemmas.{among-got, task-among}
use Rattle.rv_core.specs.declared.need.Need.{Need}
use Rattle.rv_core.specs.declared.need.Need as need
use Rattle.rv_core.specs.declared.task.End.{End}
use Rattle.rv_core.specs.declared.task.End as cause
use Rattle.rv_core.specs.declared.ending.TaskEnd.{TaskEnd}
use Rattle.rv_core.specs.Need.{need_of}
use Rattle.rv_core.proofs.Completions.{acquire-allowed}
use Rattle.rv_assembler.proofs.WellFormed.{source-well-formed}
use Rattle.flat_machine.specs.declared.ending.FlatEnd.{FlatEnd}
use Rattle.flat_machine.specs.Step.{Started}
use Rattle.flat_machine.specs.Phases.{Flat, all_tasks, initial_flat}
use Rattle.flat_machine.specs.Grants.{so_far, granted, granted_if}
use Rattle.flat_machine.specs.Ending.{flat_end, shown_of, wait_shown, task_end}
use Rattle.flat_machine.specs.Laws.{IsLegal, HasTasks, IsEnded}
use Rattle.flat_machine.proofs.CauseLemmas.{run-ended}
use Rattle.flat_machine.proofs.KeptLaws.{AllHave}
use Rattle.flat_machine.proofs.LegalLaws.{granted-legal}
use Rattle.flat_machine.proofs.ReachedLaws.{reached-tasks, front-has}
use Rattle.flat_machine.proofs.RunLemmas.{grants-push}
use Rattle.flat_machine.proofs.Rights.{wish-need}
use Rattle.text_places.specs.declared.places.Located.{Located}
use Rattle.text_places.specs.declared.places.Places.{Places}
use Rattle.text_places.specs.Words.{is_task_of}
use Rattle.effect_prover.proofs.FollowWords.{AreBelow}
use Rattle.explained_answer.specs.declared.line.AnswerLine as line
use Rattle.explained_answer.specs.declared.line.AnswerLine.{AnswerLine}
use Rattle.explained_answer.specs.declared.line.Count as count
use Rattle.explained_answer.specs.Parts.{IsNumber}
use Rattle.explained_answer.specs.AnswerLines.{HasEndNumbers}
use Rattle.explained_answer.specs.Answers.{shown_words, ending_lines, summary_lines}
use Rattle.run_report.specs.Summary.{retired_by_all}
use Rattle.explained_answer.specs.Lines.{IsLineOf, has_task, has_named_lock}
use Rattle.explained_answer.specs.Explained.{IsLocated}
use Rattle.companion_laws.proofs.Values.{memory-small}
use Rattle.companion_laws.proofs.Tasks.{has-place, small-argument}
use Rattle.companion_laws.proofs.States.{IsOfProgram, IsMemoryOf, run-of-program}
use Rattle.companion_laws.proofs.Shown.{end_seen, task_seen, ending_seen}

pub number : (n : ℕ) → n ≤ 4294967295 → IsNumber n
number n few = record { low = omega arith; high = few }

pub among-item : {X : Type 0} (Holds : X → Type 0) (xs : List X) (x : X) → All Holds xs → IsAmong xs x → Holds x
among-item Holds xs x all among = subst Holds (sym among.1.1) (all among.0 x among.1.0)

module _ (text : List ℕ) (l : Located) (at' : IsLocated text l) where
  abbrev P : ProgramParts
  P = l.program

  pub program : IsProgram P
  program = source-well-formed text P at'.program

  -- ---- a task of the program

  pub has-task : (k : ℕ) (p : Phase) (d : TaskDecl) → slice_get P.phases k ≡ Some p → IsAmong p.tasks d → has_task l k d.core.0 ≡ true
  has-task k p d there among =
      ap (λ (ps : Places). is_some (find (is_task_of k d.core.0) ps.tasks)) at'.places ∙ has-place text P at'.program k p d there among

  pub phase-number : (k : ℕ) (p : Phase) → slice_get P.phases k ≡ Some p → IsNumber k
  phase-number k p there = let few = program.phases in number k (omega (arith, few, slice_get_within P.phases k p there))

  pub core-number : (k : ℕ) (p : Phase) (d : TaskDecl) → slice_get P.phases k ≡ Some p → IsAmong p.tasks d → IsNumber d.core.0
  core-number k p d there among =
      let low = (task-among P p d program (among-got P.phases k p there) among).core in number d.core.0 (omega (arith, low))

  pub lock-number : (lock : ℕ) → lock < length P.locks → IsNumber lock
  lock-number lock within = let few = program.locks in number lock (omega (arith, few, within))

  module _ (fuel : ℕ) (most : fuel ≤ 32768) where
    retired-number : (r : Started) → IsOfProgram P fuel r → IsNumber r.state.retired
    retired-number r h = let few = h.retired in number r.state.retired (omega (arith, few, most))

    -- how a task stands at the end
    end-numbers : (r : Started) → IsOfProgram P fuel r → HasEndNumbers (end_seen (shown_of P fuel r r.state.end)) r.state.retired
    end-numbers r h = by_end r.state.end
      where
        by_need : (n : Need) → need_of P r.decl fuel r.state ≡ n → HasEndNumbers (end_seen (wait_shown n)) r.state.retired
        by_need (need.TheVariants.Acquire lock) is = (lock-number lock.0 (acquire-allowed P r.decl fuel r.state lock is).0, retired-number r h)
        by_need need.TheVariants.Local is = retired-number r h
        by_need (need.TheVariants.Load word) is = retired-number r h
        by_need (need.TheVariants.Store word whole) is = retired-number r h
        by_need (need.TheVariants.Release lock) is = retired-number r h
        by_need (need.TheVariants.End by) is = retired-number r h

        by_end : (o : Option End) → HasEndNumbers (end_seen (shown_of P fuel r o)) r.state.retired
        by_end None = by_need (need_of P r.decl fuel r.state) refl
        by_end (Some cause.TheVariants.Finished) = retired-number r h
        by_end (Some cause.TheVariants.Fuel) = retired-number r h
        by_end (Some (cause.TheVariants.Trap kind pc value)) =
            record { pc = mod_below pc (2 ^ 32) (omega arith); value = mod_below value (2 ^ 32) (omega arith); retired = retired-number r h }

    task-line-of : (r : Started) → IsOfProgram P fuel r → IsLineOf l (line.TheVariants.Task (task_seen (task_end P fuel r)))
    task-line-of r h =
        record {
          fits =
              record {
                phase = phase-number r.phase.0 h.phase h.there;
                core = core-number r.phase.0 h.phase r.decl h.there h.among;
                ended = end-numbers r h;
              };
          of = has-task r.phase.0 h.phase r.decl h.there h.among;
        }

    task-lines : (rs : List Started) → All (IsOfProgram P fuel) rs → All (IsLineOf l) (map line.TheVariants.Task (map task_seen (map (task_end P fuel) rs)))
    task-lines [] all = All-nil (IsLineOf l)
    task-lines (r ∷ rs) all =
        All-cons (IsLineOf l) (line.TheVariants.Task (task_seen (task_end P fuel r))) (map line.TheVariants.Task (map task_seen (map (task_end P fuel) rs)))
        (task-line-of r (All-head (IsOfProgram P fuel) r rs all)) (task-lines rs (All-tail (IsOfProgram P fuel) r rs all))

    all-retired : (rs : List Started) → All (IsOfProgram P fuel) rs → retired_by_all (map (task_end P fuel) rs) ≤ length rs * 32768
    all-retired [] all = omega arith
    all-retired (r ∷ rs) all =
        let one = (All-head (IsOfProgram P fuel) r rs all).retired in
        omega (
          arith,
          one,
          most,
          all-retired rs (All-tail (IsOfProgram P fuel) r rs all),
          sum_by-cons (λ (t : TaskEnd). t.retired) (task_end P fuel r) (map (task_end P fuel) rs),
        )

    -- ---- the data words

    pub word-lines : (w : ℕ) (values : List ℕ) → AreBelow (2 ^ 32) values → w + length values ≤ length P.memory → All (IsLineOf l) (shown_words w values)
    word-lines w [] small few = All-nil (IsLineOf l)
    word-lines w (v ∷ vs) small few =
        All-append (IsLineOf l) (if v == 0 then [] else line.TheVariants.Word w v ∷ []) (shown_words (w + 1) vs) (by_test (v == 0) refl)
        (word-lines (w + 1) vs (λ i. small (suc i)) (omega (arith, few)))
      where
        by_test : (b : Bool) → (v == 0) ≡ b → All (IsLineOf l) (if b then [] else line.TheVariants.Word w v ∷ [])
        by_test true is = All-nil (IsLineOf l)
        by_test false is =
            let some : v ≢ 0 = eqb-false v 0 is in
            let most_words = program.memory in
            All-cons (IsLineOf l) (line.TheVariants.Word w v) []
            (record {
              fits = record { word_fits = omega (arith, few, most_words); value_fits = small 0; some = omega (arith, some) };
              of = lt-ltb w (length P.memory) (omega (arith, few));
            })
            (All-nil (IsLineOf l))

    -- ---- the grants

    module _ (F : Flat) (kept : AllHave (IsOfProgram P fuel) (IsMemoryOf P) F) (tasks : HasTasks P F) where
      legal-line : (g : Grant) → IsLegal P fuel F g → IsLineOf l (line.TheVariants.Grant g)
      legal-line g legal =
          let h = among-item (IsOfProgram P fuel) F.tasks legal.task kept.tasks legal.started in
          let here : legal.task.phase.0 + 1 ≡ F.begun = among-item (λ (r : Started). r.phase.0 + 1 ≡ F.begun) F.tasks legal.task tasks.here legal.started in
          let phase : legal.task.phase.0 ≡ g.phase.0 = omega (arith, here, legal.current) in
          let there : slice_get P.phases g.phase.0 ≡ Some h.phase = subst (λ (k : ℕ). slice_get P.phases k ≡ Some h.phase) phase h.there in
          let core : legal.task.decl.core.0 ≡ g.core.0 = ap (λ (c : CoreId). c.0) legal.named in
          let needs = wish-need P fuel legal.task (need.TheVariants.Acquire g.lock) legal.waits in
          let within = (acquire-allowed P legal.task.decl fuel legal.task.state g.lock needs).0 in
          record {
            fits =
                record {
                  phase = phase-number g.phase.0 h.phase there;
                  core = subst IsNumber core (core-number g.phase.0 h.phase legal.task.decl there h.among);
                  lock = lock-number g.lock.0 within;
                };
            of =
                and_from (has_task l g.phase.0 g.core.0) (has_named_lock l g.lock.0)
                (subst (λ (c : ℕ). has_task l g.phase.0 c ≡ true) core (has-task g.phase.0 h.phase legal.task.decl there h.among))
                (lt-ltb g.lock.0 (length P.locks) within);
          }

    all-kept : (gs : List Grant) (F : Flat) → so_far P fuel gs ≡ Some F → AllHave (IsOfProgram P fuel) (IsMemoryOf P) F
    all-kept gs F e =
        run-of-program P fuel (memory-small text P at'.program) (λ k p d there among. small-argument text P at'.program k p d there among) gs F e

    granted-line : (front : List Grant) (g : Grant) (G : Flat) → so_far P fuel (front ++ g ∷ []) ≡ Some G → IsLineOf l (line.TheVariants.Grant g)
    granted-line front g G e = by_state (so_far P fuel front) refl (sym (grants-push P fuel (Some (initial_flat P fuel)) front g) ∙ e)
      where
        by_state : (o : Option Flat) → so_far P fuel front ≡ o → granted_if P fuel o g ≡ Some G → IsLineOf l (line.TheVariants.Grant g)
        by_state None is may = absurd (none-some G may)
        by_state (Some F) is may =
            let some : granted P fuel g F ≢ None = λ none. none-some G (sym none ∙ may) in
            legal-line F (all-kept front F is) (reached-tasks P fuel front F is) g (granted-legal P fuel front F g is some)

    grants-from : (front gs : List Grant) (F : Flat) → so_far P fuel (front ++ gs) ≡ Some F → All (λ (g : Grant). IsLineOf l (line.TheVariants.Grant g)) gs
    grants-from front [] F e = All-nil (λ (g : Grant). IsLineOf l (line.TheVariants.Grant g))
    grants-from front (g ∷ gs) F e =
        let parts : so_far P fuel ((front ++ g ∷ []) ++ gs) ≡ Some F = ap (so_far P fuel) (append_assoc front (g ∷ []) gs) ∙ e in
        let has = front-has P fuel (front ++ g ∷ []) gs F parts in
        All-cons (λ (x : Grant). IsLineOf l (line.TheVariants.Grant x)) g gs (granted-line front g has.flat has.front) (grants-from (front ++ g ∷ []) gs F parts)

    -- ---- a run

    module _ (gs : List Grant) (e : FlatEnd) (run : flat_end P fuel gs ≡ Some e) where
      last : IsEnded P fuel gs e
      last = run-ended P fuel gs e run

      kept-all : AllHave (IsOfProgram P fuel) (IsMemoryOf P) last.last
      kept-all = all-kept gs last.last last.leads

      started-all : All (IsOfProgram P fuel) (all_tasks last.last)
      started-all = All-append (IsOfProgram P fuel) last.last.past last.last.tasks kept-all.past kept-all.tasks

      pub memory-of : IsMemoryOf P e.ending.memory
      memory-of = subst (IsMemoryOf P) (sym last.memory) kept-all.memory

      -- no more tasks than the program has
      few-tasks : length (all_tasks last.last) ≤ 64
      few-tasks =
          let has = reached-tasks P fuel gs last.last last.leads in
          let begun = take last.last.begun P.phases in
          let behind = drop last.last.begun P.phases in
          let parts : tasks_of P.phases ≡ tasks_of begun ++ tasks_of behind =
          ap tasks_of (sym (take-append-drop last.last.begun P.phases)) ∙ flat_map-append (λ (p : Phase). p.tasks) begun behind in
          let declared : length (all_tasks last.last) ≡ length (tasks_of begun) =
          sym (length-map (all_tasks last.last) (λ (r : Started). r.decl)) ∙ ap length has.all in
          let few = program.tasks in
          omega (arith, declared, few, ap length parts, length-append (tasks_of begun) (tasks_of behind))

      shown-tasks : map task_seen e.ending.tasks ≡ map task_seen (map (task_end P fuel) (all_tasks last.last))
      shown-tasks = ap (map task_seen) last.tasks

      size-line : IsLineOf l (line.TheVariants.Count count.TheVariants.Words (length e.ending.memory))
      size-line =
          let words = memory-of.words in
          let most_words = program.memory in
          record { fits = number (length e.ending.memory) (omega (arith, words, most_words)); of = eq-eqb (length e.ending.memory) (length P.memory) words }

      pub grant-lines-of : All (IsLineOf l) (map line.TheVariants.Grant gs)
      grant-lines-of = All-map (IsLineOf l) line.TheVariants.Grant gs (grants-from [] gs last.last last.leads)

      pub task-lines-of : All (IsLineOf l) (map line.TheVariants.Task (map task_seen e.ending.tasks))
      task-lines-of = subst (λ (ts : List TaskEnd). All (IsLineOf l) (map line.TheVariants.Task ts)) (sym shown-tasks) (task-lines (all_tasks last.last) started-all)

      pub ending-lines-of : All (IsLineOf l) (ending_lines (ending_seen e.ending))
      ending-lines-of =
          let words = word-lines 0 e.ending.memory memory-of.small (omega (arith, memory-of.words)) in
          let size = line.TheVariants.Count count.TheVariants.Words (length e.ending.memory) in
          let behind = All-cons (IsLineOf l) size (shown_words 0 e.ending.memory) size-line words in
          All-cons (IsLineOf l) (line.TheVariants.Outcome e.ending.outcome) (map line.TheVariants.Task (map task_seen e.ending.tasks) ++ size ∷ shown_words 0 e.ending.memory)
          (record { fits = tt; of = refl })
          (All-append (IsLineOf l) (map line.TheVariants.Task (map task_seen e.ending.tasks)) (size ∷ shown_words 0 e.ending.memory) task-lines-of behind)

      -- the summary
      pub summary-lines-of : All (IsLineOf l) (summary_lines e.ending)
      summary-lines-of =
          let tasks = e.ending.tasks in
          let many : length tasks ≡ length (all_tasks last.last) = ap length last.tasks ∙ length-map (all_tasks last.last) (task_end P fuel) in
          let retired : retired_by_all tasks ≤ length (all_tasks last.last) * 32768 =
          subst (λ (ts : List TaskEnd). retired_by_all ts ≤ length (all_tasks last.last) * 32768) (sym last.tasks) (all-retired (all_tasks last.last) started-all) in
          let tasks_line : IsLineOf l (line.TheVariants.Count count.TheVariants.Tasks (length tasks)) =
          record { fits = number (length tasks) (omega (arith, many, few-tasks)); of = refl } in
          let retired_line : IsLineOf l (line.TheVariants.Count count.TheVariants.Retired (retired_by_all tasks)) =
          record { fits = number (retired_by_all tasks) (omega (arith, retired, few-tasks)); of = refl } in
          let sum_line : IsLineOf l (line.TheVariants.Sum (sum e.ending.memory % 2 ^ 32)) =
          record { fits = mod_below (sum e.ending.memory) (2 ^ 32) (omega arith); of = refl } in
          let one = line.TheVariants.Outcome e.ending.outcome in
          let two = line.TheVariants.Count count.TheVariants.Tasks (length tasks) in
          let three = line.TheVariants.Count count.TheVariants.Retired (retired_by_all tasks) in
          let four = line.TheVariants.Count count.TheVariants.Words (length e.ending.memory) in
          let five = line.TheVariants.Sum (sum e.ending.memory % 2 ^ 32) in
          All-cons (IsLineOf l) one (two ∷ three ∷ four ∷ five ∷ []) (record { fits = tt; of = refl })
          (All-cons (IsLineOf l) two (three ∷ four ∷ five ∷ []) tasks_line
          (All-cons (IsLineOf l) three (four ∷ five ∷ []) retired_line
          (All-cons (IsLineOf l) four (five ∷ []) size-line (All-cons (IsLineOf l) five [] sum_line (All-nil (IsLineOf l))))))
