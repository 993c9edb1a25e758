-- The core whose turn it is: it wants the lock of a legal grant, its acquire may come, and it doesn't wait for ever.
use Rattle.std.proofs.Common.{◌≡◌, ◌≢◌, ◌⊎◌, ℕ, ◌==◌, Bool, true, false, cond, List, slice_get, Option, Some, None, refl, sym, ap, subst, ◌∙◌}
use Rattle.std.specs.List.{IsAmong}
use Rattle.std.proofs.lemmas.Bool.{eqb-true, true≢false, false_from_ne_true}
use Rattle.std.proofs.lemmas.Option.{none-some, same_Some, slice_get-get_or, slice_get_within, get_or_from_slice_get}
use Rattle.dn_base.specs.declared.ids.CoreId.{CoreId}
use Rattle.dn_base.specs.declared.ids.LockId.{LockId}
use Rattle.dn_base.specs.declared.ids.Grant.{Grant}
use Rattle.region_table.specs.Program.{ProgramParts}
use Rattle.region_table.specs.declared.declared.TaskDecl.{TaskDecl}
use Rattle.region_table.specs.declared.declared.Phase.{Phase}
use Rattle.rv_core.specs.declared.need.Need as need
use Rattle.rv_core.specs.declared.need.Need.{Need}
use Rattle.message_net.specs.declared.event.Event.{Event}
use Rattle.message_net.specs.declared.event.Event.TheVariants.{Instr}
use Rattle.flat_machine.specs.Step.{Started, wish}
use Rattle.flat_machine.specs.Phases.{Flat}
use Rattle.flat_machine.specs.Grants.{so_far}
use Rattle.flat_machine.specs.Laws.{IsLegal}
use Rattle.registration_protocol.specs.declared.node.NodeWait as wait
use Rattle.registration_protocol.specs.declared.node.NodeWait.{NodeWait}
use Rattle.registration_protocol.specs.Node.{NodeParts, Setting, need_now, is_ready}
use Rattle.registration_protocol.specs.Parts.{MayInstruct, accessed, wait_by}
use Rattle.registration_protocol.specs.OwnEvents.{may_instr, instructed}
use Rattle.registration_protocol.proofs.InstrLemmas.{may-instruct, instructed-is, instr-parts}
use Rattle.machine_rules.specs.State.{State, initial_state}
use Rattle.machine_rules.specs.Sound.{IsReady}
use Rattle.machine_rules.specs.Next.{next, enabled, granted_in}
use Rattle.machine_rules.specs.Runs.{after, IsRun, grants_of}
use Rattle.machine_rules.specs.Rest.{IsLockedOut}
use Rattle.machine_rules.proofs.AnySize.{well-formed}
use Rattle.machine_rules.proofs.Invariant.{Invariant}
use Rattle.machine_rules.proofs.Steps.{instr-step}
use Rattle.machine_rules.proofs.WordCore.{same-number}
use Rattle.machine_rules.proofs.OpenedFacts.{opened-setting}
use Rattle.machine_rules.proofs.RunsKept.{memory_over, run-setting}
use Rattle.machine_rules.proofs.RunsCoherent.{first_memory, run-all}
use Rattle.machine_rules.proofs.RestStates.{locked-by}
use Rattle.run_agreement.specs.Agreed.{States, Loads, stands, Agreed, more_ends}
use Rattle.run_agreement.specs.Cores.{IsHeldAmong}
use Rattle.run_agreement.proofs.AgreedRuns.{loads_over, ends_over, no_ends}
use Rattle.run_agreement.proofs.Opened.{no_loads}
use Rattle.run_agreement.proofs.Places.{map-place, place-map}
use Rattle.run_agreement.proofs.PrefixAgrees.{run-agreed}
use Rattle.run_agreement.proofs.Choosing.{IsPoised}
use Rattle.run_agreement.proofs.Waits.{awaits, awaited, awaited_by, step-waits}
use Rattle.run_agreement.proofs.Turns.{NobodyWaits, OnlyWaits}
use Rattle.run_agreement.proofs.Poised.{IsOpen, SomeOpen, idle-node}
use Rattle.run_agreement.proofs.PoisedWorlds.{IsAwaiting, world_at, Wanting, wanting, holder-among, world-is}
use Rattle.run_agreement.proofs.FlatGrants.{wish-open, legal-free}

-- ---- the flat machine's state by the grants of a run

abbrev pub state_of : Setting → List Event → State
state_of C events = after (initial_state C) events

abbrev pub memory_of_run : Setting → List Event → ℕ → ℕ
memory_of_run C events = memory_over (first_memory C) (initial_state C) events

abbrev loads_of_run : Setting → List Event → Loads
loads_of_run C events = loads_over no_loads (initial_state C) events

-- the tasks of a run's last state, some of which go on, are the flat machine's state by its grants
pub record StandsAt (C : Setting) (events : List Event) : Type 0 where
  pub states : States
  pub phase : Phase
  pub memory : List ℕ
  pub awaiting : IsAwaiting (state_of C events) (memory_of_run C events) states (loads_of_run C events) phase
  pub is : so_far C.program C.fuel (grants_of (initial_state C) events) ≡ Some (world_at (state_of C events) states (loads_of_run C events) phase memory)

setting-is : (C : Setting) (events : List Event) → (state_of C events).setting ≡ C
setting-is C events = run-setting (initial_state C) events ∙ opened-setting C

pub stands-at : (C : Setting) (p : Phase) (events : List Event) → IsReady C → slice_get C.program.phases 0 ≡ Some p → IsRun (initial_state C) events → IsPoised (state_of C events) → SomeOpen (state_of C events) → StandsAt C events
stands-at C p events ready first run poised some =
    record {
      states = h.states;
      phase = h.phase;
      memory = h.memory;
      awaiting = a;
      is = subst (λ (x : Setting). so_far x.program x.fuel (grants_of (initial_state C) events) ≡ Some (world_at (state_of C events) h.states (loads_of_run C events) h.phase h.memory)) (setting-is C events)
          (world-is (state_of C events) (memory_of_run C events) (grants_of (initial_state C) events) (loads_of_run C events) (ends_over (more_ends no_ends (initial_state C)) (initial_state C) events) h a);
    }
  where
    h : Agreed (state_of C events) (memory_of_run C events) (grants_of (initial_state C) events) (loads_of_run C events) (ends_over (more_ends no_ends (initial_state C)) (initial_state C) events)
    h = run-agreed C p events (well-formed C ready) first run

    a : IsAwaiting (state_of C events) (memory_of_run C events) h.states (loads_of_run C events) h.phase
    a = record { inv = (run-all C events ready run).1; poised = poised; some = some; shown = h.shown; there = h.world.there }

-- ---- the core whose turn it is

-- the node of a grant's core goes on, and needs the grant's lock
pub record IsTaker (S : State) (g : Grant) : Type 0 where
  pub node : NodeParts
  pub open' : IsOpen S g.core.0 node
  pub needs : need_now S.setting node ≡ Some (need.TheVariants.Acquire g.lock)
  pub way : (may_instr S.setting node ≡ true) ⊎ (node.waiting ≡ wait.TheVariants.Locking g.lock)

same-acquire : (a b : LockId) → Some (need.TheVariants.Acquire a) ≡ Some (need.TheVariants.Acquire b) → a ≡ b
same-acquire a b e = cc

pub taker : (C : Setting) (events : List Event) (F : Flat) (g : Grant) → StandsAt C events → so_far C.program C.fuel (grants_of (initial_state C) events) ≡ Some F → IsLegal C.program C.fuel F g → IsTaker (state_of C events) g
taker C events F g s leads legal =
    record {
      node = w.node;
      open' = subst (λ (c : CoreId). IsOpen S c.0 w.node) core w.open';
      needs = w.wants.needs ∙ ap (λ (l : LockId). Some (need.TheVariants.Acquire l)) lock;
      way = subst (λ (l : LockId). (may_instr S.setting w.node ≡ true) ⊎ (w.node.waiting ≡ wait.TheVariants.Locking l)) lock w.wants.way;
    }
  where
    S : State
    S = state_of C events

    P : ProgramParts
    P = S.setting.program

    L : Loads
    L = loads_of_run C events

    W : Flat
    W = world_at S s.states L s.phase s.memory

    same : F ≡ W
    same = same_Some F W (sym leads ∙ s.is)

    here : IsLegal P S.setting.fuel W g
    here = subst (λ (x : Setting). IsLegal x.program x.fuel W g) (sym (setting-is C events)) (subst (λ (x : Flat). IsLegal C.program C.fuel x g) same legal)

    there : slice_get W.tasks here.started.0 ≡ Some here.task
    there = slice_get-get_or W.tasks here.started.0 here.task here.started.1.0 ∙ ap (λ (x : Started). Some x) (sym here.started.1.1)

    e : (d : TaskDecl) × (slice_get s.phase.tasks here.started.0 ≡ Some d) × (stands s.states L S.keeper.phase d ≡ here.task)
    e = map-place (stands s.states L S.keeper.phase) s.phase.tasks here.started.0 here.task there

    among : IsAmong s.phase.tasks e.0
    among = (here.started.0, (slice_get_within s.phase.tasks here.started.0 e.0 e.1, sym (get_or_from_slice_get s.phase.tasks here.started.0 e.0 e.0 e.1)))

    wants : wish P S.setting.fuel (stands s.states L S.keeper.phase e.0) ≡ Some (need.TheVariants.Acquire g.lock)
    wants = ap (wish P S.setting.fuel) e.2 ∙ here.waits

    w : Wanting S s.states L e.0
    w = wanting S (memory_of_run C events) s.states L s.phase e.0 s.awaiting among (wish-open P S.setting.fuel (stands s.states L S.keeper.phase e.0) (need.TheVariants.Acquire g.lock) wants)

    lock : w.wants.lock ≡ g.lock
    lock = same-acquire w.wants.lock g.lock (sym w.wish_is ∙ wants)

    core : e.0.core ≡ g.core
    core = ap (λ (r : Started). r.decl.core) e.2 ∙ here.named

-- it sends its acquire, and then it alone waits for a lock
pub record IsSent (S : State) (core : CoreId) (lock : LockId) : Type 0 where
  pub may : enabled S (Instr core) ≡ true
  pub told : granted_in S (Instr core) ≡ None
  pub only : OnlyWaits (next S (Instr core)) core.0 lock

acquire-awaits : (C : Setting) (n : NodeParts) (lock : LockId) → may_instr C n ≡ true → need_now C n ≡ Some (need.TheVariants.Acquire lock) → awaits (instructed C n).0.waiting ≡ Some lock
acquire-awaits C n lock may needs =
    let m : MayInstruct C n = may-instruct C n may in
    let is : m.needs ≡ need.TheVariants.Acquire lock = same_Some m.needs (need.TheVariants.Acquire lock) (sym m.now ∙ needs) in
    ap (λ r. awaits r.0.waiting) (instructed-is C n m.decl m.task m.needs m.declares m.has m.now)
    ∙ ap awaits (instr-parts C n m.decl m.task m.needs m.has).waiting
    ∙ ap (λ (x : Need). awaits (wait_by n.waiting x (accessed n m.needs))) is

pub sends : (S : State) (core : CoreId) (n : NodeParts) (lock : LockId) → slice_get S.nodes core.0 ≡ Some n → need_now S.setting n ≡ Some (need.TheVariants.Acquire lock) → may_instr S.setting n ≡ true → NobodyWaits S → IsSent S core lock
unfolding enabled granted_in
sends S core n lock found needs may free =
    record {
      may = rw (found) may;
      told = refl;
      only =
          record {
            own = waits core.0 ∙ ap (λ (b : Bool). cond b (awaits (instructed S.setting n).0.waiting) (awaited_by S core.0)) (same-number core.0) ∙ acquire-awaits S.setting n lock may needs;
            others = λ c apart. waits c ∙ by_core c apart (core.0 == c) refl;
          };
    }
  where
    waits : (c : ℕ) → awaited_by (next S (Instr core)) c ≡ cond (core.0 == c) (awaits (instructed S.setting n).0.waiting) (awaited_by S c)
    waits = step-waits S (next S (Instr core)) core.0 n _ _ _ (instr-step S core n found)

    by_core : (c : ℕ) → c ≢ core.0 → (b : Bool) → (core.0 == c) ≡ b → cond (core.0 == c) (awaits (instructed S.setting n).0.waiting) (awaited_by S c) ≡ None
    by_core c apart true e = absurd (apart (sym (eqb-true core.0 c e)))
    by_core c apart false e = rw (e) (free c)

-- ---- it doesn't wait for ever

-- a core's node that waits for a lock
pub record IsLocking (S : State) (c : ℕ) (lock : LockId) : Type 0 where
  pub node : NodeParts
  pub found : slice_get S.nodes c ≡ Some node
  pub waits : node.waiting ≡ wait.TheVariants.Locking lock

locking : (S : State) (c : ℕ) (lock : LockId) → awaited_by S c ≡ Some lock → IsLocking S c lock
locking S c lock is = by_node (slice_get S.nodes c) refl is where
  by_wait : (n : NodeParts) → slice_get S.nodes c ≡ Some n → (w : NodeWait) → n.waiting ≡ w → awaits w ≡ Some lock → IsLocking S c lock
  by_wait n found wait.TheVariants.None waits same = absurd (none-some lock same)
  by_wait n found (wait.TheVariants.Reading word) waits same = absurd (none-some lock same)
  by_wait n found (wait.TheVariants.Filled word) waits same = absurd (none-some lock same)
  by_wait n found (wait.TheVariants.Locking l) waits same = record { node = n; found = found; waits = waits ∙ ap (λ (x : LockId). wait.TheVariants.Locking x) (same_Some l lock same) }

  by_node : (o : Option NodeParts) → slice_get S.nodes c ≡ o → awaited o ≡ Some lock → IsLocking S c lock
  by_node None found same = absurd (none-some lock same)
  by_node (Some n) found same = by_wait n found n.waiting refl same

locking-open : (S : State) (M : ℕ → ℕ) (c : ℕ) (lock : LockId) → Invariant S M → (l : IsLocking S c lock) → IsOpen S c l.node
locking-open S M c lock inv l =
    record {
      found = l.found;
      awake = false_from_ne_true l.node.halted (λ off. never (inv.phases.asleep c l.node l.found off).waiting);
      absent = false_from_ne_true l.node.arrived (λ there. never (inv.phases.arrived c l.node l.found there).waiting);
    }
  where
    never : l.node.waiting ≡ wait.TheVariants.None → ⊥
    never none = let waits = l.waits in cc

-- who waits for a lock makes no instruction
locking-still : (C : Setting) (n : NodeParts) (lock : LockId) → n.waiting ≡ wait.TheVariants.Locking lock → may_instr C n ≡ false
locking-still C n lock waits = false_from_ne_true (may_instr C n) (λ may. true≢false (sym (may-instruct C n may).ready ∙ ap is_ready waits))

-- in a poised state a core doesn't wait for the lock of a legal grant
pub not-locking : (C : Setting) (p : Phase) (events : List Event) (F : Flat) (g : Grant) → IsReady C → slice_get C.program.phases 0 ≡ Some p → IsRun (initial_state C) events → IsPoised (state_of C events)
    → so_far C.program C.fuel (grants_of (initial_state C) events) ≡ Some F → IsLegal C.program C.fuel F g → awaited_by (state_of C events) g.core.0 ≡ Some g.lock → ⊥
not-locking C p events F g ready first run poised leads legal waits = legal-free C.program C.fuel F g held.among.0 (stands s.states L S.keeper.phase held.by) legal there held.holds where
  S : State
  S = state_of C events

  L : Loads
  L = loads_of_run C events

  inv : Invariant S (memory_of_run C events)
  inv = (run-all C events ready run).1

  l : IsLocking S g.core.0 g.lock
  l = locking S g.core.0 g.lock waits

  o : IsOpen S g.core.0 l.node
  o = locking-open S (memory_of_run C events) g.core.0 g.lock inv l

  s : StandsAt C events
  s = stands-at C p events ready first run poised (record { core = g.core.0; node = l.node; open' = o })

  out : IsLockedOut S g.core.0
  out = locked-by S (memory_of_run C events) g.core.0 l.node g.lock (idle-node S (memory_of_run C events) g.core.0 l.node inv poised o (locking-still S.setting l.node g.lock l.waits)) l.waits

  lock : out.lock ≡ g.lock
  lock =
      let node : out.waits.0 ≡ l.node = same_Some out.waits.0 l.node (sym out.waits.1 ∙ l.found) in
      let one : wait.TheVariants.Locking out.lock ≡ wait.TheVariants.Locking g.lock = sym out.waits.2 ∙ ap (λ (n : NodeParts). n.waiting) node ∙ l.waits in
      cc

  held : IsHeldAmong s.phase (stands s.states L S.keeper.phase) g.lock.0
  held = subst (λ (x : LockId). IsHeldAmong s.phase (stands s.states L S.keeper.phase) x.0) lock (holder-among S (memory_of_run C events) s.states L s.phase out.holder out.lock.0 s.awaiting out.has)

  W : Flat
  W = world_at S s.states L s.phase s.memory

  there : slice_get F.tasks held.among.0 ≡ Some (stands s.states L S.keeper.phase held.by)
  there =
      let at' : slice_get s.phase.tasks held.among.0 ≡ Some held.by = slice_get-get_or s.phase.tasks held.among.0 held.by held.among.1.0 ∙ ap (λ (d : TaskDecl). Some d) (sym held.among.1.1) in
      let same : F ≡ W = same_Some F W (sym leads ∙ s.is) in
      ap (λ (x : Flat). slice_get x.tasks held.among.0) same ∙ place-map (stands s.states L S.keeper.phase) s.phase.tasks held.among.0 held.by at'
