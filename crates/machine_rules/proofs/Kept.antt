-- Every event that may come keeps all that is kept.
use Rattle.std.proofs.Common.{◌≡◌, ℕ, true}
use Rattle.message_net.specs.declared.event.Event.{Event}
use Rattle.machine_rules.specs.State.{State}
use Rattle.machine_rules.specs.Sound.{IsMachine}
use Rattle.machine_rules.specs.Next.{next, enabled}
use Rattle.machine_rules.specs.Memory.{store_in}
use Rattle.machine_rules.proofs.Invariant.{Invariant, WordsGood, LocksGood, PhasesGood, ReadsGood, ValuesGood, CopiesGood}
use Rattle.machine_rules.proofs.Outcomes.{stored_to}
use Rattle.machine_rules.proofs.Dispatch.{ways}
use Rattle.machine_rules.proofs.WordOutcomes.{words-outcomes}
use Rattle.machine_rules.proofs.AddressOutcomes.{IsAddressed, address-outcomes}
use Rattle.machine_rules.proofs.LockOutcomes.{locks-outcomes}
use Rattle.machine_rules.proofs.PhaseOutcomes.{phases-outcomes}
use Rattle.machine_rules.proofs.ReadOutcomes.{reads-outcomes}
use Rattle.machine_rules.proofs.ValueOutcomes.{values-outcomes}
use Rattle.machine_rules.proofs.CopyOutcomes.{copies-outcomes}
use Rattle.machine_rules.proofs.BehindOutcomes.{AreBehind, behind-outcomes}
use Rattle.machine_rules.proofs.EndedOutcomes.{HaveEnded, ended-outcomes}

pub kept : (S : State) (M : ℕ → ℕ) (e : Event) → Invariant S M → enabled S e ≡ true → IsMachine (next S e) → Invariant (next S e) (stored_to (store_in S e) M)
kept S M e inv may machine =
    record {
      machine = machine;
      addressed = ways S M e (λ M'. IsAddressed (next S e)) inv may (address-outcomes S M e inv);
      words = ways S M e (λ M'. WordsGood (next S e)) inv may (words-outcomes S M e inv);
      locks = ways S M e (λ M'. LocksGood (next S e)) inv may (locks-outcomes S M e inv);
      phases = ways S M e (λ M'. PhasesGood (next S e)) inv may (phases-outcomes S M e inv);
      reads = ways S M e (λ M'. ReadsGood (next S e)) inv may (reads-outcomes S M e inv);
      values = ways S M e (ValuesGood (next S e)) inv may (values-outcomes S M e inv);
      copies = ways S M e (CopiesGood (next S e)) inv may (copies-outcomes S M e inv);
      behind = ways S M e (λ M'. AreBehind (next S e)) inv may (behind-outcomes S M e inv);
      ended = ways S M e (λ M'. HaveEnded (next S e)) inv may (ended-outcomes S M e inv);
    }
