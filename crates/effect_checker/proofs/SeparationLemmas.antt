-- What a checked phase says of its tasks, task by task.
use Rattle.std.proofs.Common.{◌≡◌, ◌≢◌, ℕ, Bool, IsTrue, List, get_or, refl, sym}
use Rattle.std.specs.List.{IsAmong}
use Rattle.std.proofs.lemmas.List.Folds.{list_any-from_Any}
use Rattle.region_table.specs.declared.declared.TaskDecl.{TaskDecl}
use Rattle.region_table.specs.declared.declared.Phase.{Phase}
use Rattle.region_table.specs.Program.{ProgramParts}
use Rattle.region_table.specs.Plan.{uses_plainly, task_guards}
use Rattle.effect_checker.specs.Checked.{on_core, writes_plainly, lock_guards, IsCheckedPhase, IsChecked}
use Rattle.effect_checker.proofs.CoreLemmas.{on_core-from}

-- a phase of a checked program is checked
pub phase-checked : (program : ProgramParts) (p : Phase) → IsChecked program → IsAmong program.phases p → IsCheckedPhase p
phase-checked program p h among =
    let found : IsCheckedPhase (get_or program.phases among.0 p) = h among.0 p among.1.0 in rw (sym among.1.1) at found

-- one of the tasks passes a test on its core
passes_on-core : (test : TaskDecl → ℕ → Bool) (tasks : List TaskDecl) (t : TaskDecl) (w : ℕ) → IsAmong tasks t → IsTrue (test t w) → IsTrue (on_core test tasks t.core.0 w)
passes_on-core test tasks t w among h = on_core-from test tasks t.core.0 w among.0 t (record { within = among.1.0; is = among.1.1 }) refl h

-- a word that a lock guards for one of the tasks is guarded for some of them
guards_for-some : (tasks : List TaskDecl) (t : TaskDecl) (lock w : ℕ) → IsAmong tasks t → IsTrue (task_guards t lock w) → IsTrue (lock_guards tasks lock w)
guards_for-some tasks t lock w among h = list_any-from_Any (λ (t : TaskDecl). task_guards t lock w) tasks (among.0, t, among.1.0, sym among.1.1, h)

-- a word that one task writes plainly is used plainly by no task on another core
pub plain_words_apart : (p : Phase) (t u : TaskDecl) (w : ℕ) → IsCheckedPhase p → IsAmong p.tasks t → IsAmong p.tasks u → t.core.0 ≢ u.core.0 → IsTrue (writes_plainly t w) → IsTrue (uses_plainly u w) → ⊥
plain_words_apart p t u w h at' au differ writes uses =
    differ (h.plain t.core.0 u.core.0 w (passes_on-core writes_plainly p.tasks t w at' writes) (passes_on-core uses_plainly p.tasks u w au uses))

-- a word that a lock guards for one task is used plainly by no task
pub guarded_words_apart : (p : Phase) (t u : TaskDecl) (lock w : ℕ) → IsCheckedPhase p → IsAmong p.tasks t → IsAmong p.tasks u → IsTrue (task_guards t lock w) → IsTrue (uses_plainly u w) → ⊥
guarded_words_apart p t u lock w h at' au guards uses =
    h.guarded lock u.core.0 w (guards_for-some p.tasks t lock w at' guards) (passes_on-core uses_plainly p.tasks u w au uses)

-- locks that guard one word are one lock
pub locks_apart : (p : Phase) (t u : TaskDecl) (a b w : ℕ) → IsCheckedPhase p → IsAmong p.tasks t → IsAmong p.tasks u → IsTrue (task_guards t a w) → IsTrue (task_guards u b w) → a ≡ b
locks_apart p t u a b w h at' au first second =
    h.one_lock a b w (guards_for-some p.tasks t a w at' first) (guards_for-some p.tasks u b w au second)
