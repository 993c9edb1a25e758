-- Nodes are halted in the keeper's phase alone, and the keeper's set is whole only where the run is over.
use Rattle.std.proofs.Common.{◌≡◌, ℕ, zero, suc, ◌+◌, ◌≤◌, ◌==◌, Bool, true, false, List, length, slice_get, replicate, Option, Some, None, refl, sym, ap, ◌∙◌, arith}
use Rattle.std.specs.List.{list_all}
use Rattle.dn_base.specs.declared.ids.CoreId.{CoreId}
use Rattle.message_net.specs.declared.event.Event.{Event}
use Rattle.message_net.specs.declared.message.Message.{Message}
use Rattle.message_net.specs.declared.message.Message.TheVariants.{Arrived, Go, Halt}
use Rattle.message_net.specs.declared.message.Outgoing.{Outgoing}
use Rattle.phase_barrier.specs.Barrier.{Barrier, with_arrival, in_next_phase, all_arrived, is_over}
use Rattle.registration_protocol.specs.Node.{NodeParts}
use Rattle.machine_rules.specs.State.{State}
use Rattle.machine_rules.specs.Next.{next}
use Rattle.machine_rules.specs.Flight.{bit, is_arrival_of, is_halt_to}
use Rattle.machine_rules.specs.Coherent.{is_alive}
use Rattle.machine_rules.proofs.Invariant.{Invariant}
use Rattle.machine_rules.proofs.Outcomes.{Outcomes, at_core, at_keeper, BarrierStep}
use Rattle.machine_rules.proofs.Steps.{NodeStep}
use Rattle.machine_rules.proofs.WordCore.{same-number}
use Rattle.machine_rules.proofs.PhaseWhole.{none-posted, Arriving, arriving, in-flight, IsWhole, is-whole, there-within}
use Rattle.run_agreement.proofs.Places.{set-length}
use Rattle.run_agreement.proofs.Phases.{alive-awake}

pub record IsHalting (S : State) : Type 0 where
  pub level : (c : ℕ) (n : NodeParts) → slice_get S.nodes c ≡ Some n → n.halted ≡ true → n.phase ≡ S.keeper.phase
  pub over : all_arrived S.keeper ≡ true → is_over S.keeper ≡ true

halting-node : (S T : State) (core : ℕ) (n m : NodeParts) (left sent : Option Outgoing) → NodeStep S T core n m left sent → IsHalting S → (m.halted ≡ true → m.phase ≡ S.keeper.phase) → IsHalting T
halting-node S T core n m left sent step were now =
    record {
      level = λ c k found halted. by_core c k found halted (core == c) refl ∙ sym (ap (λ (x : Barrier). x.phase) step.keeper);
      over = λ all. ap is_over step.keeper ∙ were.over (sym (ap all_arrived step.keeper) ∙ all);
    }
  where
    by_core : (c : ℕ) (k : NodeParts) → slice_get T.nodes c ≡ Some k → k.halted ≡ true → (x : Bool) → (core == c) ≡ x → k.phase ≡ S.keeper.phase
    by_core c k found halted true e =
        let is : Some m ≡ Some k = sym (rw (e) at (step.nodes c)) ∙ found in
        let same : m ≡ k = cc in
        sym (ap (λ (x : NodeParts). x.phase) same) ∙ now (ap (λ (x : NodeParts). x.halted) same ∙ halted)
    by_core c k found halted false e = were.level c k (sym (rw (e) at (step.nodes c)) ∙ found) halted

halting-still : (S T : State) → T.nodes ≡ S.nodes → T.keeper ≡ S.keeper → IsHalting S → IsHalting T
halting-still S T nodes keeper were =
    record {
      level = λ c n found halted. were.level c n (sym (ap (λ (ns : List NodeParts). slice_get ns c) nodes) ∙ found) halted ∙ sym (ap (λ (x : Barrier). x.phase) keeper);
      over = λ all. ap is_over keeper ∙ were.over (sym (ap all_arrived keeper) ∙ all);
    }

-- an arrival is counted
halting-counted : (S T : State) (k : Barrier) → T.nodes ≡ S.nodes → T.keeper ≡ k → k.phase ≡ S.keeper.phase → (all_arrived k ≡ true → is_over k ≡ true) → IsHalting S → IsHalting T
halting-counted S T k nodes keeper phase over were =
    record {
      level = λ c n found halted. were.level c n (sym (ap (λ (ns : List NodeParts). slice_get ns c) nodes) ∙ found) halted ∙ sym (ap (λ (x : Barrier). x.phase) keeper ∙ phase);
      over = λ all. ap is_over keeper ∙ over (sym (ap all_arrived keeper) ∙ all);
    }

alive-one : (o : Option NodeParts) → bit (is_alive o) ≤ 1
alive-one o = by_bit (is_alive o) where
  by_bit : (b : Bool) → bit b ≤ 1
  by_bit true = omega arith
  by_bit false = omega arith

-- who is told to halt is in the keeper's phase
told-level : (S T : State) (M : ℕ → ℕ) (core : CoreId) (n m : NodeParts) → NodeStep S T core.0 n m (at_core core Halt) None → Invariant S M → n.halted ≡ false → n.phase ≡ S.keeper.phase
told-level S T M core n m step inv awake =
    let came = rw (same-number core.0) at (step.flown (is_halt_to core.0)) in
    omega (arith, came, inv.phases.row core.0, alive-one (slice_get S.nodes core.0), inv.phases.phase core.0 n step.found awake)

pub not-all : (n : ℕ) → 1 ≤ n → list_all (λ (a : Bool). a) (replicate n false) ≡ false
not-all zero some = absurd (omega (arith, some))
not-all (suc n) some = refl

-- nobody is halted as the next phase begins
halting-go : (S T : State) (M : ℕ → ℕ) (core : CoreId) (bad : Bool) → Invariant S M
    → BarrierStep S T (in_next_phase (with_arrival core.0 bad S.keeper)) (at_keeper (Arrived core bad)) (Some (Go (record { 0 = S.keeper.phase + 1 })))
    → slice_get S.keeper.arrived core.0 ≡ Some false → all_arrived (with_arrival core.0 bad S.keeper) ≡ true → IsHalting T
halting-go S T M core bad inv step new whole =
    record {
      level = λ c n found halted. absurd (awake c n (sym (ap (λ (ns : List NodeParts). slice_get ns c) step.nodes) ∙ found) halted);
      over = λ all. absurd (never (sym (ap all_arrived step.keeper) ∙ all));
    }
  where
    go : Message
    go = Go (record { 0 = S.keeper.phase + 1 })

    a : Arriving S core.0 bad
    a = arriving S core.0 bad inv.machine new

    w : IsWhole S core.0
    w = is-whole S core.0 bad inv.machine inv.phases a (in-flight S T (in_next_phase (with_arrival core.0 bad S.keeper)) core bad (Some go) step (none-posted (is_arrival_of core.0) go (λ d. refl) S.setting.shape.cores)) whole

    awake : (c : ℕ) (n : NodeParts) → slice_get S.nodes c ≡ Some n → n.halted ≡ true → ⊥
    awake c n found halted =
        let off = alive-awake S c n found (omega (arith, w.alive c, there-within S c n inv.machine found)) in
        absurd (cc)

    long : length (with_arrival core.0 bad S.keeper).arrived ≡ length S.keeper.arrived
    long = set-length S.keeper.arrived core.0 true

    never : all_arrived (in_next_phase (with_arrival core.0 bad S.keeper)) ≡ true → ⊥
    never all =
        let none = not-all (length (with_arrival core.0 bad S.keeper).arrived) (omega (arith, long, inv.machine.cores, a.within)) in
        absurd (cc)

pub halting-outcomes : (S : State) (M : ℕ → ℕ) (e : Event) → Invariant S M → IsHalting S → Outcomes S M e (λ M'. IsHalting (next S e))
halting-outcomes S M e inv h =
    record {
      local = λ core n d t acts told step. same core.0 n _ _ _ step refl refl;
      ends = λ core n d t by acts told step. same core.0 n _ _ _ step refl refl;
      load_copy = λ core n d t word value marked acts is told step. same core.0 n _ _ _ step refl refl;
      load_own = λ core n d t word value pending acts is told step. same core.0 n _ _ _ step refl refl;
      miss = λ core n d t word needs which acts none room told step. same core.0 n _ _ _ step refl refl;
      store_new = λ core n d t word value acts none room is told step. same core.0 n _ _ _ step refl refl;
      store_copy = λ core n d t word whole old value marked acts entry is told step. same core.0 n _ _ _ step refl refl;
      store_own = λ core n d t word whole old value pending acts entry is told step. same core.0 n _ _ _ step refl refl;
      acquire = λ core n d t lock acts told step. same core.0 n _ _ _ step refl refl;
      release = λ core n d t lock acts settled told step. same core.0 n _ _ _ step refl refl;
      evict_copy = λ core n word value marked found active waits is told step. same core.0 n _ _ _ step refl refl;
      evict_own = λ core n word value found active waits is told step. same core.0 n _ _ _ step refl refl;
      arrive = λ core n found awake absent done settled told step. same core.0 n _ _ _ step refl refl;
      reply = λ core n word value found waits none room told step. same core.0 n _ _ _ step refl refl;
      acknowledge = λ core n word value found is told step. same core.0 n _ _ _ step refl refl;
      forward = λ core other n word value found is told step. same core.0 n _ _ _ step refl refl;
      forward_past = λ core other n word found none told step. same core.0 n _ _ _ step refl refl;
      answer = λ core reader n word value found is told step. same core.0 n _ _ _ step refl refl;
      bounce = λ core reader n word found none told step. same core.0 n _ _ _ step refl refl;
      freed = λ core n word value found is told step. same core.0 n _ _ _ step refl refl;
      grant = λ core n d t lock s found waits task open' declares wants awake absent told step. same core.0 n _ _ _ step refl refl;
      go = λ core n phase found awake there right later within told step. halting-node S T core.0 n _ _ _ step h (λ halted. absurd (both awake halted));
      halt = λ core n found awake there told step. halting-node S T core.0 n _ _ _ step h (λ halted. told-level S T M core n _ step inv awake);
      read_home = λ bank word reader value is told step. halting-still S T step.nodes step.keeper h;
      read_owned = λ bank word reader owner is told step. halting-still S T step.nodes step.keeper h;
      register_home = λ bank word core value is told step. halting-still S T step.nodes step.keeper h;
      register_owned = λ bank word core owner is other told step. halting-still S T step.nodes step.keeper h;
      write_back = λ bank word core value is told step. halting-still S T step.nodes step.keeper h;
      write_past = λ bank word core value content is other told step. halting-still S T step.nodes step.keeper h;
      acquire_free = λ bank lock core k is none told step. halting-still S T step.nodes step.keeper h;
      acquire_held = λ bank lock core holder k is held told step. halting-still S T step.nodes step.keeper h;
      release_last = λ bank lock core holder s k is held one none told step. halting-still S T step.nodes step.keeper h;
      release_on = λ bank lock core holder waiter others s k is held one queue told step. halting-still S T step.nodes step.keeper h;
      arrived = λ core bad new missing told step. halting-counted S T _ step.nodes step.keeper refl (λ all. absurd (both missing all)) h;
      all_go = λ core bad new whole on told step. halting-go S T M core bad inv step new whole;
      all_halt = λ core bad new whole over told step. halting-counted S T _ step.nodes step.keeper refl (λ all. over) h;
    }
  where
    T : State
    T = next S e

    both : {b : Bool} → b ≡ false → b ≡ true → ⊥
    both one two = absurd (cc)

    same : (core : ℕ) (n m : NodeParts) (left sent : Option Outgoing) → NodeStep S T core n m left sent → m.halted ≡ n.halted → m.phase ≡ n.phase → IsHalting T
    same core n m left sent step mark phase = halting-node S T core n m left sent step h (λ halted. phase ∙ h.level core n step.found (sym mark ∙ halted))
