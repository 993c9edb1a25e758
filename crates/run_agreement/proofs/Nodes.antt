-- The node of each task of the keeper's phase: it is there, and has the task, or is in the phase before.
use Rattle.std.proofs.Common.{◌≡◌, ◌⊎◌, inl, inr, ℕ, zero, suc, ◌<◌, ◌==◌, Bool, true, false, List, [], ◌∷◌, ◌++◌, slice_get, Option, Some, None, refl, sym, ap, subst, ◌∙◌, arith}
use Rattle.std.specs.List.{IsAmong}
use Rattle.std.specs.Option.{is_some}
use Rattle.std.proofs.lemmas.Bool.{eqb-true}
use Rattle.std.proofs.lemmas.Bool.Decides.{nat_tests}
use Rattle.std.proofs.lemmas.Option.{none-some, same_Some, slice_get-get_or}
use Rattle.region_table.specs.Program.{tasks_of, cores_in}
use Rattle.region_table.specs.declared.declared.TaskDecl.{TaskDecl}
use Rattle.region_table.specs.declared.declared.Phase.{Phase}
use Rattle.region_table.specs.Tasks.{declared}
use Rattle.flat_machine.proofs.InOrder.{declared-only}
use Rattle.rv_core.specs.declared.task.TaskState.{TaskState}
use Rattle.rv_core.specs.Task.{started}
use Rattle.run_agreement.proofs.Places.{get-cases}
use Rattle.registration_protocol.specs.Node.{NodeParts}
use Rattle.machine_rules.specs.State.{State}
use Rattle.machine_rules.specs.Sound.{IsNodeAt}
use Rattle.machine_rules.proofs.Invariant.{Invariant}
use Rattle.run_agreement.specs.Agreed.{States, Loads, AreShown}

-- ---- a task's core is one of those that the program needs

cores-right : (xs ys : List TaskDecl) (c : ℕ) → c < cores_in ys → c < cores_in (xs ++ ys)
cores-right [] ys c within = within
cores-right (x ∷ xs) ys c within = let rest = cores-right xs ys c within in omega (arith, rest)

cores-left : (xs ys : List TaskDecl) (i : ℕ) (d : TaskDecl) → slice_get xs i ≡ Some d → d.core.0 < cores_in (xs ++ ys)
cores-left [] ys i d there = absurd (none-some d there)
cores-left (x ∷ xs) ys zero d there = let same = ap (λ (e : TaskDecl). e.core.0) (same_Some x d there) in omega (arith, same)
cores-left (x ∷ xs) ys (suc i) d there = let rest = cores-left xs ys i d there in omega (arith, rest)

cores-within : (ps : List Phase) (k : ℕ) (p : Phase) (i : ℕ) (d : TaskDecl) → slice_get ps k ≡ Some p → slice_get p.tasks i ≡ Some d → d.core.0 < cores_in (tasks_of ps)
cores-within [] k p i d there at' = absurd (none-some p there)
cores-within (x ∷ ps) zero p i d there at' =
    let same : x ≡ p = same_Some x p there in
    cores-left x.tasks (tasks_of ps) i d (subst (λ (y : Phase). slice_get y.tasks i ≡ Some d) (sym same) at')
cores-within (x ∷ ps) (suc k) p i d there at' = cores-right x.tasks (tasks_of ps) d.core.0 (cores-within ps k p i d there at')

-- ---- the node of a declared task

pub node-there : (S : State) (M : ℕ → ℕ) (phase : ℕ) (p : Phase) (d : TaskDecl) → Invariant S M → slice_get S.setting.program.phases phase ≡ Some p → IsAmong p.tasks d
    → (n : NodeParts) × (slice_get S.nodes d.core.0 ≡ Some n)
node-there S M phase p d inv there among =
    let at' : slice_get p.tasks among.0 ≡ Some d = slice_get-get_or p.tasks among.0 d among.1.0 ∙ ap Some (sym among.1.1) in
    let within = cores-within S.setting.program.phases phase p among.0 d there at' in
    get-cases S.nodes d.core.0 (omega (arith, within, inv.machine.nodes, inv.machine.context.cores))

pub task-there : (S : State) (M : ℕ → ℕ) (c : ℕ) (n : NodeParts) (d : TaskDecl) → Invariant S M → slice_get S.nodes c ≡ Some n → declared S.setting.program n.phase c ≡ Some d
    → (t : TaskState) × (n.task ≡ Some t)
task-there S M c n d inv found declares = by_task n.task refl where
  fits : IsNodeAt S c n
  fits = inv.machine.node c n found

  some : is_some n.task ≡ true
  some = fits.fits.task ∙ ap (λ (x : ℕ). is_some (declared S.setting.program n.phase x)) fits.core ∙ ap is_some declares

  by_task : (o : Option TaskState) → n.task ≡ o → (t : TaskState) × (n.task ≡ Some t)
  by_task None is = let none : is_some n.task ≡ false = ap is_some is in let one = some in absurd (cc)
  by_task (Some t) is = (t, is)

-- how a task of the keeper's phase stands: its node has it, or is in the phase before
pub record HasIt (S : State) (K : States) (d : TaskDecl) (n : NodeParts) : Type 0 where
  pub task : TaskState
  pub has : n.task ≡ Some task
  pub phase : n.phase ≡ S.keeper.phase
  pub is : K S.keeper.phase d.core.0 ≡ task

pub stands-or : (S : State) (M : ℕ → ℕ) (K : States) (L : Loads) (p : Phase) (d : TaskDecl) (n : NodeParts) → Invariant S M → AreShown S K L → slice_get S.setting.program.phases S.keeper.phase ≡ Some p → IsAmong p.tasks d
    → slice_get S.nodes d.core.0 ≡ Some n → HasIt S K d n ⊎ ((n.phase < S.keeper.phase) × (K S.keeper.phase d.core.0 ≡ started d))
stands-or S M K L p d n inv shown there among found = by_phase (n.phase == S.keeper.phase) refl where
  declares : declared S.setting.program S.keeper.phase d.core.0 ≡ Some d
  declares = declared-only S.setting.program S.keeper.phase p d inv.machine.program.order there among

  by_phase : (x : Bool) → (n.phase == S.keeper.phase) ≡ x → HasIt S K d n ⊎ ((n.phase < S.keeper.phase) × (K S.keeper.phase d.core.0 ≡ started d))
  by_phase true e =
      let same : n.phase ≡ S.keeper.phase = eqb-true n.phase S.keeper.phase e in
      let task = task-there S M d.core.0 n d inv found (subst (λ (k : ℕ). declared S.setting.program k d.core.0 ≡ Some d) (sym same) declares) in
      inl (record { task = task.0; has = task.1; phase = same; is = subst (λ (k : ℕ). K k d.core.0 ≡ task.0) same (shown.here d.core.0 n task.0 found task.1) })
  by_phase false e =
      let before : n.phase < S.keeper.phase = grind (arith, nat_tests, e, inv.behind d.core.0 n found) in
      inr (before, shown.ahead d.core.0 S.keeper.phase n d found before declares)
