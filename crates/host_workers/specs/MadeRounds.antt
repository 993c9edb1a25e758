-- The result of a round of workers.
use Rattle.std.specs.Prelude.{◌≡◌, ℕ, ◌+◌, length, map, AllPairs}
use Rattle.message_net.specs.declared.actor.Actor.{Actor}
use Rattle.registration_protocol.specs.Node.{Setting}
use Rattle.machine_rules.specs.State.{State}
use Rattle.machine_rules.specs.Runs.{after, read_off}
use Rattle.grant_log.specs.Order.{IsBefore}
use Rattle.dn_machine.specs.Kept.{Made}
use Rattle.bank_hall.specs.Closing.{history_of}
use Rattle.host_workers.specs.Rounds as rules
use Rattle.host_workers.specs.Rounds.{IsJoined, IsRoundOf, end_observed, events_of}
use Rattle.host_workers.specs.Beginnings.{AllHaveActed}
use Rattle.host_workers.specs.Unspent.{AreUnspent}
use Rattle.host_workers.specs.Owners.{AreOwners}
use Rattle.host_workers.specs.Entries.{AreAnswers, AreGivenMails}
use Rattle.host_workers.specs.NextNumbers.{AreNumbersLow}
use Rattle.host_workers.specs.declared.opening.Moving.{Moving}
use Rattle.host_workers.specs.declared.round.FixedParts.{FixedParts}
use Rattle.host_workers.specs.declared.round.Round.{Round}
use Rattle.host_workers.specs.Inboxes.{inbox_at_first}
use Rattle.host_workers.specs.Opening.{StandsFor}

-- the setting of a machine, which a round doesn't change
abbrev pub fixed_setting : FixedParts → Setting
fixed_setting fixed = record { program = fixed.decoded; plans = fixed.plans.items; shape = fixed.shape; fuel = fixed.fuel }

-- the machine made of the parts that a round doesn't change, and of those that it changes
abbrev pub made_from_parts : FixedParts → Moving → Made
made_from_parts fixed moving =
    record {
      state =
          record {
            setting = fixed_setting fixed;
            nodes = moving.nodes.items;
            banks = moving.banks.items;
            keeper = moving.keeper;
            mails = moving.pool.mails;
            numbers = moving.next.items;
          };
      made = fixed.made;
    }

-- the parts of a machine that a round doesn't change
abbrev pub AreFixedPartsOf : State → FixedParts → Type 0
AreFixedPartsOf M fixed = M.setting ≡ fixed_setting fixed

-- The round that workers made of a machine in state M, which stands for S: what each did, and which calls its hall had. It is a
-- run of the machine from S on, to a state for which the machine stands that is handed back. The entries of the merged list are
-- ordered by their stamps, and those with the same stamp by their actors. Each bank, each core's port and the keeper has one
-- history
pub record IsMadeRound (S M : State) (made workers : ℕ) (out : Round) : Type 0 where
  pub round : rules.Round
  pub workers_are : round.workers ≡ workers
  pub merged : round.merged ≡ out.merged.items
  pub order : AllPairs IsBefore out.merged.items
  pub bank_count : length out.banks.items ≡ M.setting.shape.banks
  pub port_count : length out.ports.items ≡ M.setting.shape.cores
  pub banks : (b : ℕ) → round.histories.banks b ≡ history_of (map (λ h. h.items) out.banks.items) b
  pub ports : (c : ℕ) → round.histories.ports c ≡ history_of (map (λ h. h.items) out.ports.items) c
  pub keeper : round.histories.keeper ≡ out.keeper.items
  pub began : (a : Actor) → round.began a ≡ inbox_at_first M.mails a
  pub joined : IsJoined M.setting S out.machine.state round
  pub run : IsRoundOf M.setting S out.machine.state round
  pub stands : StandsFor (after S (events_of round.merged)) out.machine.state
  pub made_are : out.machine.made ≡ made + length round.merged
  pub ends : out.ends.items ≡ read_off end_observed S (events_of round.merged)
  pub acted : AllHaveActed M.setting S round
  pub unspent : AreUnspent M.setting S round
  pub owners : AreOwners round
  pub entries : AreAnswers M.setting round
  pub port_mails : AreGivenMails M.setting round
  pub numbers : AreNumbersLow M.setting S out.machine.state round
