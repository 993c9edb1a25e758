-- The task of a core in a phase, as its node last had it: what the program declares, and none before the core comes to the
-- phase; once the core has gone on, no later state shows it.
use Rattle.std.proofs.Common.{◌≡◌, ℕ, ◌+◌, ◌<◌, ◌≤◌, ◌==◌, Bool, true, false, cond, List, [], ◌∷◌, slice_get, Option, Some, None, refl, sym, ap, subst, ◌∙◌, arith}
use Rattle.std.specs.Option.{is_some, option_or}
use Rattle.std.proofs.lemmas.Bool.{eqb-true}
use Rattle.std.proofs.lemmas.Bool.Decides.{nat_tests}
use Rattle.std.proofs.lemmas.Option.{none-some}
use Rattle.region_table.specs.declared.declared.TaskDecl.{TaskDecl}
use Rattle.region_table.specs.Tasks.{declared}
use Rattle.rv_core.specs.declared.task.TaskState.{TaskState}
use Rattle.message_net.specs.declared.event.Event.{Event}
use Rattle.registration_protocol.specs.Node.{NodeParts, Setting}
use Rattle.registration_protocol.specs.Parts.{retired_so_far}
use Rattle.machine_rules.specs.State.{State}
use Rattle.machine_rules.specs.Next.{next}
use Rattle.machine_rules.specs.Memory.{store_in}
use Rattle.machine_rules.specs.Runs.{IsRun}
use Rattle.machine_rules.specs.Bound.{task_in_phase, last_task}
use Rattle.machine_rules.specs.Sound.{IsSound}
use Rattle.machine_rules.proofs.Invariant.{Invariant}
use Rattle.machine_rules.proofs.Outcomes.{stored_to}
use Rattle.machine_rules.proofs.SoundEvents.{sound-next}
use Rattle.machine_rules.proofs.Kept.{kept}
use Rattle.machine_rules.proofs.RunsKept.{same-setting}
use Rattle.machine_rules.proofs.PhasesOn.{goes-on}

-- ---- a node's task is that of its phase, and of no other

pub own-task : (n : NodeParts) → task_in_phase n.phase (Some n) ≡ n.task
own-task n = let same : (n.phase == n.phase) ≡ true = grind (arith, nat_tests) in rw (same) refl

past-task : (q : ℕ) (n : NodeParts) → q < n.phase → task_in_phase q (Some n) ≡ None
past-task q n past = let apart : (n.phase == q) ≡ false = grind (arith, nat_tests, past) in rw (apart) refl

-- ---- a core that has gone on from a phase has no task of it any more

pub none-past : (S : State) (M : ℕ → ℕ) (count : ℕ) (events : List Event) (q c : ℕ) (n : NodeParts) → IsSound S count → Invariant S M → IsRun S events
    → slice_get S.nodes c ≡ Some n → q < n.phase → last_task q c S events ≡ None
none-past S M count [] q c n sound inv run found past = ap (task_in_phase q) found ∙ past-task q n past
none-past S M count (e ∷ es) q c n sound inv run found past =
    let after_it = sound-next S count e sound run.0 in
    let on = (goes-on S M e inv run.0).each c n found in
    let rest = none-past (next S e) (stored_to (store_in S e) M) (count + 1) es q c on.node after_it (kept S M e inv run.0 after_it.machine) run.1 on.found (omega (arith, past, on.past)) in
    ap (λ (o : Option TaskState). option_or o (task_in_phase q (slice_get S.nodes c))) rest ∙ (ap (task_in_phase q) found ∙ past-task q n past)

-- ---- the task that a node had is one that the program declares, and within its fuel

pub record IsTaskOf (C : Setting) (q c : ℕ) (t : TaskState) : Type 0 where
  pub decl : TaskDecl
  pub declares : declared C.program q c ≡ Some decl
  pub fuel : t.retired ≤ C.fuel

some-there : {X : Type 0} (o : Option X) → is_some o ≡ true → (x : X) × (o ≡ Some x)
some-there None some = absurd (cc)
some-there (Some x) some = (x, refl)

node-task : (S : State) (M : ℕ → ℕ) (q c : ℕ) (t : TaskState) → Invariant S M → task_in_phase q (slice_get S.nodes c) ≡ Some t → IsTaskOf S.setting q c t
node-task S M q c t inv is = by_node (slice_get S.nodes c) refl is where
  by_phase : (n : NodeParts) → slice_get S.nodes c ≡ Some n → (b : Bool) → (n.phase == q) ≡ b → cond b n.task None ≡ Some t → IsTaskOf S.setting q c t
  by_phase n found true e is =
      let well = inv.machine.node c n found in
      let some : is_some (declared S.setting.program n.phase n.core) ≡ true = sym well.fits.task ∙ ap is_some is in
      let decl = some-there (declared S.setting.program n.phase n.core) some in
      let phase : n.phase ≡ q = eqb-true n.phase q e in
      record {
        decl = decl.0;
        declares = ap (λ (k : ℕ). declared S.setting.program k c) (sym phase) ∙ (ap (declared S.setting.program n.phase) (sym well.core) ∙ decl.1);
        fuel = rw (is) at well.fits.retired;
      }
  by_phase n found false e is = absurd (none-some t is)

  by_node : (o : Option NodeParts) → slice_get S.nodes c ≡ o → task_in_phase q o ≡ Some t → IsTaskOf S.setting q c t
  by_node None found is = absurd (none-some t is)
  by_node (Some n) found is = by_phase n found (n.phase == q) refl is

pub last-declared : (S : State) (M : ℕ → ℕ) (count : ℕ) (events : List Event) (q c : ℕ) (t : TaskState) → IsSound S count → Invariant S M → IsRun S events
    → last_task q c S events ≡ Some t → IsTaskOf S.setting q c t
last-declared S M count [] q c t sound inv run is = node-task S M q c t inv is
last-declared S M count (e ∷ es) q c t sound inv run is =
    let after_it = sound-next S count e sound run.0 in
    by_last (last_task q c (next S e) es) refl (λ u last. last-declared (next S e) (stored_to (store_in S e) M) (count + 1) es q c u after_it (kept S M e inv run.0 after_it.machine) run.1 last) is
  where
    by_last : (o : Option TaskState) → last_task q c (next S e) es ≡ o → ((u : TaskState) → last_task q c (next S e) es ≡ Some u → IsTaskOf (next S e).setting q c u)
        → option_or o (task_in_phase q (slice_get S.nodes c)) ≡ Some t → IsTaskOf S.setting q c t
    by_last None last rest is = node-task S M q c t inv is
    by_last (Some u) last rest is = subst (λ (C : Setting). IsTaskOf C q c t) (same-setting S e) (rest t (last ∙ is))

pub last-fuel : (S : State) (M : ℕ → ℕ) (count : ℕ) (events : List Event) (q c : ℕ) → IsSound S count → Invariant S M → IsRun S events → retired_so_far (last_task q c S events) ≤ S.setting.fuel
last-fuel S M count events q c sound inv run = by_last (last_task q c S events) refl where
  by_last : (o : Option TaskState) → last_task q c S events ≡ o → retired_so_far o ≤ S.setting.fuel
  by_last None last = omega arith
  by_last (Some t) last = (last-declared S M count events q c t sound inv run last).fuel
