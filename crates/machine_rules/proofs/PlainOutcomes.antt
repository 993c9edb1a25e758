-- The ways of an event for a fact that looks at phases and halted nodes alone: all but Go and Halt leave them to each node.
use Rattle.std.proofs.Common.{◌≡◌, ℕ, ◌+◌, ◌≤◌, true, false, slice_get, Option, Some, None, refl, arith}
use Rattle.dn_base.specs.declared.ids.CoreId.{CoreId}
use Rattle.dn_base.specs.declared.ids.PhaseId.{PhaseId}
use Rattle.message_net.specs.declared.event.Event.{Event}
use Rattle.message_net.specs.declared.message.Message.{Message}
use Rattle.message_net.specs.declared.message.Message.TheVariants.{Go, Halt}
use Rattle.message_net.specs.declared.message.Outgoing.{Outgoing}
use Rattle.queue_lock.specs.Lock.{Lock}
use Rattle.registry_bank.specs.declared.bank.BankWord.{BankWord}
use Rattle.phase_barrier.specs.Barrier.{Barrier, all_arrived}
use Rattle.phase_barrier.proofs.CountLemmas.{missing-one}
use Rattle.registration_protocol.specs.Node.{NodeParts}
use Rattle.registration_protocol.specs.Messages.{begins}
use Rattle.machine_rules.specs.State.{State}
use Rattle.machine_rules.specs.Next.{next}
use Rattle.machine_rules.proofs.Steps.{NodeStep}
use Rattle.machine_rules.proofs.Outcomes.{Outcomes, WordStep, LockStep, BarrierStep, at_core}

-- what has to be shown for such a fact
pub record PlainWays (S : State) (e : Event) (Fact : Type 0) : Type 0 where
  pub node : (core : ℕ) (n m : NodeParts) (left sent : Option Outgoing) → NodeStep S (next S e) core n m left sent → m.phase ≡ n.phase → m.halted ≡ n.halted → Fact
  pub go : (core : CoreId) (n : NodeParts) (phase : PhaseId) → phase.0 ≡ S.keeper.phase → phase.0 ≡ n.phase + 1
      → NodeStep S (next S e) core.0 n (begins S.setting n phase.0) (at_core core (Go phase)) None → Fact
  pub halt : (core : CoreId) (n : NodeParts) → NodeStep S (next S e) core.0 n (record n { halted = true }) (at_core core Halt) None → Fact
  pub home : (w : ℕ) (content : BankWord) (left sent : Option Outgoing) → WordStep S (next S e) w content left sent → Fact
  pub lock : (l : ℕ) (state : Lock) (left sent : Option Outgoing) → LockStep S (next S e) l state left sent → Fact
  pub barrier : (k : Barrier) (left : Option Outgoing) (sent : Option Message) → BarrierStep S (next S e) k left sent → S.keeper.phase ≤ k.phase
      → (all_arrived S.keeper ≡ true → all_arrived k ≡ true) → Fact

pub plain-outcomes : (S : State) (M : ℕ → ℕ) (e : Event) (Fact : Type 0) → PlainWays S e Fact → Outcomes S M e (λ M'. Fact)
plain-outcomes S M e Fact them =
    record {
      local = λ core n d t acts told step. same core.0 n _ _ _ step refl refl;
      ends = λ core n d t by acts told step. same core.0 n _ _ _ step refl refl;
      load_copy = λ core n d t word value marked acts is told step. same core.0 n _ _ _ step refl refl;
      load_own = λ core n d t word value pending acts is told step. same core.0 n _ _ _ step refl refl;
      miss = λ core n d t word needs which acts none room told step. same core.0 n _ _ _ step refl refl;
      store_new = λ core n d t word value acts none room is told step. same core.0 n _ _ _ step refl refl;
      store_copy = λ core n d t word whole old value marked acts entry is told step. same core.0 n _ _ _ step refl refl;
      store_own = λ core n d t word whole old value pending acts entry is told step. same core.0 n _ _ _ step refl refl;
      acquire = λ core n d t lock acts told step. same core.0 n _ _ _ step refl refl;
      release = λ core n d t lock acts settled told step. same core.0 n _ _ _ step refl refl;
      evict_copy = λ core n word value marked found active waits is told step. same core.0 n _ _ _ step refl refl;
      evict_own = λ core n word value found active waits is told step. same core.0 n _ _ _ step refl refl;
      arrive = λ core n found awake absent done settled told step. same core.0 n _ _ _ step refl refl;
      reply = λ core n word value found waits none room told step. same core.0 n _ _ _ step refl refl;
      acknowledge = λ core n word value found is told step. same core.0 n _ _ _ step refl refl;
      forward = λ core other n word value found is told step. same core.0 n _ _ _ step refl refl;
      forward_past = λ core other n word found none told step. same core.0 n _ _ _ step refl refl;
      answer = λ core reader n word value found is told step. same core.0 n _ _ _ step refl refl;
      bounce = λ core reader n word found none told step. same core.0 n _ _ _ step refl refl;
      freed = λ core n word value found is told step. same core.0 n _ _ _ step refl refl;
      grant = λ core n d t lock s found waits task open' declares wants awake absent told step. same core.0 n _ _ _ step refl refl;
      go = λ core n phase found awake there right later within told step. them.go core n phase right later step;
      halt = λ core n found awake there told step. them.halt core n step;
      read_home = λ bank word reader value is told step. them.home _ _ _ _ step;
      read_owned = λ bank word reader owner is told step. them.home _ _ _ _ step;
      register_home = λ bank word core value is told step. them.home _ _ _ _ step;
      register_owned = λ bank word core owner is other told step. them.home _ _ _ _ step;
      write_back = λ bank word core value is told step. them.home _ _ _ _ step;
      write_past = λ bank word core value content is other told step. them.home _ _ _ _ step;
      acquire_free = λ bank lock core h is none told step. them.lock _ _ _ _ step;
      acquire_held = λ bank lock core holder h is held told step. them.lock _ _ _ _ step;
      release_last = λ bank lock core holder s h is held same none told step. them.lock _ _ _ _ step;
      release_on = λ bank lock core holder waiter others s h is held same queue told step. them.lock _ _ _ _ step;
      arrived = λ core bad new missing told step. them.barrier _ _ _ step (omega arith) (not-before core new);
      all_go = λ core bad new whole on told step. them.barrier _ _ _ step (omega arith) (not-before core new);
      all_halt = λ core bad new whole over told step. them.barrier _ _ _ step (omega arith) (λ all. whole);
    }
  where
    same : (core : ℕ) (n m : NodeParts) (left sent : Option Outgoing) → NodeStep S (next S e) core n m left sent → m.phase ≡ n.phase → m.halted ≡ n.halted → Fact
    same = them.node

    -- where an arrival comes, the set wasn't whole before
    not-before : {P : Type 0} (core : CoreId) → slice_get S.keeper.arrived core.0 ≡ Some false → all_arrived S.keeper ≡ true → P
    not-before core new all = let not_all = missing-one S.keeper core.0 new in absurd (cc)
