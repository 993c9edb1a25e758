-- What is kept says that the phases are coherent.
use Rattle.std.proofs.Common.{◌≡◌, inl, inr, ℕ, zero, suc, ◌≤◌, not, ◌&&◌, Bool, true, false, slice_get, Option, Some, refl, ap, arith}
use Rattle.dn_base.specs.declared.ids.CoreId.{CoreId}
use Rattle.message_net.specs.declared.message.Mail.{Mail}
use Rattle.message_net.specs.declared.message.Message.TheVariants.{Arrived}
use Rattle.registration_protocol.specs.Node.{NodeParts}
use Rattle.registration_protocol.specs.OwnEvents.{task_ended_badly}
use Rattle.machine_rules.specs.State.{State}
use Rattle.machine_rules.specs.Flight.{bit, flight, mail_count, is_go_to}
use Rattle.machine_rules.specs.Coherent.{ArePhases, IsInPhase, IsInFlight, is_alive}
use Rattle.machine_rules.proofs.Invariant.{PhasesGood, is_lie, same_truth}
use Rattle.message_net.proofs.PoolLemmas.{weight-within}

alive-arrived : (n : NodeParts) → 1 ≤ bit (is_alive (Some n)) → n.arrived ≡ true
alive-arrived n some = by_flag n.arrived refl some where
  by_flag : (x : Bool) → n.arrived ≡ x → 1 ≤ bit (x && not n.halted) → n.arrived ≡ true
  by_flag true is one = is
  by_flag false is one = absurd (omega (arith, one))

in_phase : (S : State) → PhasesGood S → (c : ℕ) (n : NodeParts) → slice_get S.nodes c ≡ Some n → n.halted ≡ false → IsInPhase S c n
in_phase S g c n found awake = by_count (flight S (is_go_to c)) refl where
  alive : (bit (is_alive (slice_get S.nodes c))) ≡ bit (is_alive (Some n))
  alive = ap (λ (o : Option NodeParts). bit (is_alive o)) found

  by_count : (x : ℕ) → flight S (is_go_to c) ≡ x → IsInPhase S c n
  by_count zero is = inl (omega (arith, g.phase c n found awake, is))
  by_count (suc x) is =
      let some : 1 ≤ bit (is_alive (Some n)) = omega (arith, g.row c, is, alive) in
      let one : flight S (is_go_to c) ≡ 1 = omega (arith, g.row c, is, alive, alive-one) in
      inr (omega (arith, g.phase c n found awake, one), alive-arrived n some, omega (arith, is))
    where
      alive-one : bit (is_alive (Some n)) ≤ 1
      alive-one = bit-le (is_alive (Some n)) where
        bit-le : (b : Bool) → bit b ≤ 1
        bit-le true = omega arith
        bit-le false = omega arith

true-same : (a b : Bool) → bit (not (same_truth a b)) ≤ 0 → a ≡ b
true-same true true none = refl
true-same true false none = absurd (omega (arith, none))
true-same false true none = absurd (omega (arith, none))
true-same false false none = refl

said : (S : State) → PhasesGood S → (m : Mail) (core : CoreId) (bad : Bool) → IsInFlight S m → m.message ≡ Arrived core bad
    → (n : NodeParts) → slice_get S.nodes core.0 ≡ Some n → bad ≡ task_ended_badly n.task
said S g m core bad (place, there) is n found =
    let within = rw (is, found) at (weight-within (mail_count (is_lie S.nodes)) S.mails place m there) in
    true-same bad (task_ended_badly n.task) (omega (arith, within, g.truly))

pub phases : (S : State) → PhasesGood S → ArePhases S
phases S g =
    record {
      phase = in_phase S g;
      whereabouts = λ c. (g.row c).one;
      arrived = g.arrived;
      said = said S g;
      bad = g.bad;
      good = g.good;
      unlocked = g.unlocked;
    }
