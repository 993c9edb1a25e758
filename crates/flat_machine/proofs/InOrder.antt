-- The tasks of each phase stand in rising order of their cores: what a program declares for a core is the only task of that core.
use Rattle.std.proofs.Common.{◌≡◌, ℕ, zero, suc, ◌<◌, ◌==◌, Bool, true, false, cond, List, [], ◌∷◌, length, get_or, Option, Some, None, slice_get, refl, sym, ap, subst, ◌∙◌, arith}
use Rattle.std.specs.List.{IsAmong, find}
use Rattle.std.specs.Option.{option_and_then}
use Rattle.std.proofs.lemmas.Bool.Decides.{nat_tests}
use Rattle.std.proofs.lemmas.Option.{same_Some, none-some, slice_get_within, get_or_from_slice_get}
use Rattle.region_table.specs.declared.declared.TaskDecl.{TaskDecl}
use Rattle.region_table.specs.declared.declared.Phase.{Phase}
use Rattle.region_table.specs.Program.{ProgramParts, IsProgram}
use Rattle.region_table.specs.Tasks.{is_for, declared}
use Rattle.region_table.proofs.TaskLemmas.{AreRising, one-of_core, declared-tells}
use Rattle.flat_machine.specs.Laws.{AreCoresRising}

-- a program within the limits has its tasks in order
pub in-order : (P : ProgramParts) → IsProgram P → AreCoresRising P
in-order P is = λ k p within. (is.each_phase k p within).rising

-- a phase of the program
pub phase-order : (P : ProgramParts) (k : ℕ) (p : Phase) → AreCoresRising P → slice_get P.phases k ≡ Some p → AreRising p.tasks
phase-order P k p order there = subst (λ (q : Phase). AreRising q.tasks) (get_or_from_slice_get P.phases k p p there) (order k p (slice_get_within P.phases k p there))

pub known-order : (P : ProgramParts) (p : Phase) → AreCoresRising P → IsAmong P.phases p → AreRising p.tasks
known-order P p order among = subst (λ (q : Phase). AreRising q.tasks) (sym among.1.1) (order among.0 p among.1.0)

-- a core of which some task stands in a list has a first task there
none-found : (core : ℕ) (ts : List TaskDecl) (k : ℕ) (d : TaskDecl) → k < length ts → (get_or ts k d).core.0 ≡ core → find (is_for core) ts ≡ None → ⊥
none-found core [] k d within own none = omega arith
none-found core (t ∷ ts) zero d within own none =
    let here : (t.core.0 == core) ≡ true = grind (arith, nat_tests, own) in
    none-some t (sym none ∙ ap (λ (b : Bool). cond b (Some t) (find (is_for core) ts)) here)
none-found core (t ∷ ts) (suc k) d within own none = by_test (t.core.0 == core) refl none (none-found core ts k d (omega (arith, within)) own) where
  by_test : (b : Bool) → (t.core.0 == core) ≡ b → cond b (Some t) (find (is_for core) ts) ≡ None → (find (is_for core) ts ≡ None → ⊥) → ⊥
  by_test true e none rest = none-some t (sym none)
  by_test false e none rest = rest none

-- each task of a phase is what the program declares for its core
pub declared-only : (P : ProgramParts) (number : ℕ) (p : Phase) (d : TaskDecl) → AreCoresRising P → slice_get P.phases number ≡ Some p → IsAmong p.tasks d → declared P number d.core.0 ≡ Some d
declared-only P number p d order there among = by_found (declared P number d.core.0) refl where
  by_found : (o : Option TaskDecl) → declared P number d.core.0 ≡ o → declared P number d.core.0 ≡ Some d
  by_found None is =
      absurd (none-found d.core.0 p.tasks among.0 d among.1.0 (ap (λ (x : TaskDecl). x.core.0) (sym among.1.1)) (sym (ap (option_and_then (λ (q : Phase). find (is_for d.core.0) q.tasks)) there) ∙ is))
  by_found (Some e) is =
      let told = declared-tells P number d.core.0 e is in
      let same : told.phase ≡ p = same_Some told.phase p (sym told.there ∙ there) in
      let first : IsAmong p.tasks e = subst (λ (q : Phase). IsAmong q.tasks e) same told.among in
      is ∙ ap Some (one-of_core p.tasks e d (phase-order P number p order there) first among told.own)
