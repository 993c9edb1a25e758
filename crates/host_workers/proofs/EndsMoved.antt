-- What an event makes of a core's node, and what it tells of the core's task.
use Rattle.std.proofs.Common.{◌≡◌, ◌⊎◌, inl, inr, ℕ, ◌==◌, Bool, true, false, cond, slice_get, Option, Some, None, refl, sym, ap, ◌∙◌}
use Rattle.std.specs.Option.{is_some}
use Rattle.dn_base.specs.declared.ids.CoreId.{CoreId}
use Rattle.dn_base.specs.declared.ids.BankId.{BankId}
use Rattle.message_net.specs.declared.actor.MailId.{MailId}
use Rattle.region_table.specs.Program.{ProgramParts}
use Rattle.region_table.specs.Tasks.{declared}
use Rattle.rv_core.specs.declared.ending.TaskEnd.{TaskEnd}
use Rattle.rv_core.specs.declared.task.TaskState.{TaskState}
use Rattle.message_net.specs.declared.actor.Actor.{Actor}
use Rattle.message_net.specs.declared.actor.Actor.TheVariants.{Core, Bank, Keeper}
use Rattle.message_net.specs.declared.event.Event.{Event}
use Rattle.message_net.specs.declared.event.Event.TheVariants.{Instr, Evict, Arrive, Handle}
use Rattle.message_net.specs.declared.message.Mail.{Mail}
use Rattle.registry_bank.specs.Bank.{BankParts}
use Rattle.registration_protocol.specs.Messages.{node_gets}
use Rattle.registration_protocol.specs.Node.{NodeParts}
use Rattle.registration_protocol.specs.OwnEvents.{may_instr, may_evict, may_arrive, instructed, evicted, arrives}
use Rattle.machine_rules.specs.State.{State}
use Rattle.machine_rules.specs.Next.{next, enabled, when_there}
use Rattle.machine_rules.proofs.Invariant.{Invariant}
use Rattle.machine_rules.proofs.Steps.{Handled, handled, instr-step, evict-step, arrive-step, core-step, bank-step, keeper-step}
use Rattle.host_workers.specs.Rounds.{end_observed, end_of_node}
use Rattle.host_workers.specs.Ends.{node_standing}
use Rattle.host_workers.proofs.Standing.{Stays, Begins, Arrives, RestsThere, instr-stays, evict-stays, arrive-arrives, gets-on}

-- what the node of a core becomes, where an event tells this of its task
pub data Way (n m : NodeParts) (told : Option TaskEnd) : Type 0 where
  Stayed : told ≡ None → Stays n m → Way n m told
  Began : told ≡ None → Begins n m → Way n m told
  Arrived : told ≡ node_standing n → Arrives n m → Way n m told

-- an event of one core, whose node n becomes m
pub record MovesNode (S T : State) (told : Option TaskEnd) : Type 0 where
  pub core : ℕ
  pub old : NodeParts
  pub new : NodeParts
  pub found : slice_get S.nodes core ≡ Some old
  pub nodes : (d : ℕ) → slice_get T.nodes d ≡ cond (core == d) (Some new) (slice_get S.nodes d)
  pub way : Way old new told

-- an event that changes no node
pub record LeavesNodes (S T : State) (told : Option TaskEnd) : Type 0 where
  pub nodes : T.nodes ≡ S.nodes
  pub none : told ≡ None

-- at the barrier each node waits for nothing
abbrev pub AllRestThere : State → Type 0
AllRestThere S = (c : ℕ) (n : NodeParts) → slice_get S.nodes c ≡ Some n → RestsThere n

pub all-rest : (S : State) (M : ℕ → ℕ) → Invariant S M → AllRestThere S
all-rest S M inv c n found there = (inv.phases.arrived c n found there).waiting

-- ---- own events

there-node : (test : NodeParts → Bool) (o : Option NodeParts) → when_there test o ≡ true → (n : NodeParts) × (o ≡ Some n) × (test n ≡ true)
there-node test None may = absurd (cc)
there-node test (Some n) may = (n, refl, may)

instr-moved : (S : State) (core : CoreId) → enabled S (Instr core) ≡ true → MovesNode S (next S (Instr core)) None
unfolding enabled
instr-moved S core may =
    let at = there-node (may_instr S.setting) (slice_get S.nodes core.0) may in
    let step = instr-step S core at.0 at.1 in
    record { core = core.0; old = at.0; new = (instructed S.setting at.0).0; found = at.1; nodes = step.nodes; way = Stayed refl (instr-stays S.setting at.0 at.2) }

evict-moved : (S : State) (core : CoreId) (word : _) → enabled S (Evict core word) ≡ true → MovesNode S (next S (Evict core word)) None
unfolding enabled
evict-moved S core word may =
    let at = there-node (λ (n : NodeParts). may_evict S.setting n word.0) (slice_get S.nodes core.0) may in
    let step = evict-step S core word at.0 at.1 in
    record { core = core.0; old = at.0; new = (evicted S.setting at.0 word).0; found = at.1; nodes = step.nodes; way = Stayed refl (evict-stays S.setting at.0 word) }

arrive-moved : (S : State) (core : CoreId) → enabled S (Arrive core) ≡ true → MovesNode S (next S (Arrive core)) (end_observed S (Arrive core))
unfolding enabled
arrive-moved S core may =
    let at = there-node may_arrive (slice_get S.nodes core.0) may in
    let step = arrive-step S core at.0 at.1 in
    record { core = core.0; old = at.0; new = (arrives at.0).0; found = at.1; nodes = step.nodes; way = Arrived (ap end_of_node at.1) (arrive-arrives at.0 at.2) }

-- ---- the handling of a mail

none-there : (S : State) (id : MailId) (m : Mail) (core : CoreId) → Handled S id m → m.to ≡ Core core → slice_get S.nodes core.0 ≡ None → (next S (Handle id)).nodes ≡ S.nodes
unfolding next
none-there S id m core h to none = rw (h.took, to, none) refl

no-bank : (S : State) (id : MailId) (m : Mail) (bank : BankId) → Handled S id m → m.to ≡ Bank bank → slice_get S.banks bank.0 ≡ None → (next S (Handle id)).nodes ≡ S.nodes
unfolding next
no-bank S id m bank h to none = rw (h.took, to, none) refl

handle-moved : (S : State) (id : MailId) → AllRestThere S → enabled S (Handle id) ≡ true
    → LeavesNodes S (next S (Handle id)) None ⊎ MovesNode S (next S (Handle id)) None
handle-moved S id rest may = by_mail (handled S id may) where
  by_mail : (m : Mail) × Handled S id m → LeavesNodes S (next S (Handle id)) None ⊎ MovesNode S (next S (Handle id)) None
  by_mail (m, h) = by_actor m.to refl where
    by_way : (core : CoreId) (n : NodeParts) → m.to ≡ Core core → slice_get S.nodes core.0 ≡ Some n
        → Stays n (node_gets S.setting n m.message).0 ⊎ Begins n (node_gets S.setting n m.message).0 → MovesNode S (next S (Handle id)) None
    by_way core n to found (inl stays) =
        let step = core-step S id m core n h to found in
        record { core = core.0; old = n; new = (node_gets S.setting n m.message).0; found = found; nodes = step.nodes; way = Stayed refl stays }
    by_way core n to found (inr begins) =
        let step = core-step S id m core n h to found in
        record { core = core.0; old = n; new = (node_gets S.setting n m.message).0; found = found; nodes = step.nodes; way = Began refl begins }

    by_node : (core : CoreId) → m.to ≡ Core core → (o : Option NodeParts) → slice_get S.nodes core.0 ≡ o
        → LeavesNodes S (next S (Handle id)) None ⊎ MovesNode S (next S (Handle id)) None
    by_node core to None none = inl (record { nodes = none-there S id m core h to none; none = refl })
    by_node core to (Some n) found = inr (by_way core n to found (gets-on S.setting n m.message (rest core.0 n found)))

    by_bank : (bank : BankId) → m.to ≡ Bank bank → (o : Option BankParts) → slice_get S.banks bank.0 ≡ o
        → LeavesNodes S (next S (Handle id)) None ⊎ MovesNode S (next S (Handle id)) None
    by_bank bank to None none = inl (record { nodes = no-bank S id m bank h to none; none = refl })
    by_bank bank to (Some b) found = inl (record { nodes = (bank-step S id m bank b h to found).nodes; none = refl })

    by_actor : (a : Actor) → m.to ≡ a → LeavesNodes S (next S (Handle id)) None ⊎ MovesNode S (next S (Handle id)) None
    by_actor (Core core) to = by_node core to (slice_get S.nodes core.0) refl
    by_actor (Bank bank) to = by_bank bank to (slice_get S.banks bank.0) refl
    by_actor Keeper to = inl (record { nodes = (keeper-step S id m h to).nodes; none = refl })

-- ---- every event

pub moved : (S : State) (e : Event) → AllRestThere S → enabled S e ≡ true → LeavesNodes S (next S e) (end_observed S e) ⊎ MovesNode S (next S e) (end_observed S e)
moved S (Instr core) rest may = inr (instr-moved S core may)
moved S (Evict core word) rest may = inr (evict-moved S core word may)
moved S (Arrive core) rest may = inr (arrive-moved S core may)
moved S (Handle id) rest may = handle-moved S id rest may

-- ---- a node has a task where the program declares one

none-some-task : (o : Option TaskState) → is_some o ≡ false → o ≡ None
none-some-task None none = refl
none-some-task (Some t) none = absurd (cc)

pub tasks-stay : (P : ProgramParts) (n m : NodeParts) → is_some n.task ≡ is_some (declared P n.phase n.core) → is_some m.task ≡ is_some (declared P m.phase m.core)
    → m.phase ≡ n.phase → m.core ≡ n.core → m.task ≡ None → n.task ≡ None
tasks-stay P n m was is phase core none =
    let same : is_some (declared P m.phase m.core) ≡ is_some (declared P n.phase n.core) =
    ap (λ (p : ℕ). is_some (declared P p m.core)) phase ∙ ap (λ (c : ℕ). is_some (declared P n.phase c)) core in
    none-some-task n.task (was ∙ (sym same ∙ (sym is ∙ ap is_some none)))
