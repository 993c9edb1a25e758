-- The run of a seed on a machine with more fuel.
use Rattle.std.specs.Prelude.{◌≡◌, ℕ, List}
use Rattle.message_net.specs.declared.event.Event.{Event}
use Rattle.registration_protocol.specs.Node.{Setting}
use Rattle.machine_rules.specs.State.{State, initial_state}
use Rattle.machine_rules.specs.Runs.{after, grants_of, all_loads, ending_of_run}
use Rattle.dn_machine.specs.Run.{OfEachFront}
use Rattle.dn_machine.specs.declared.record.RunRecord.{RunRecord}

-- the setting with this fuel: the same program and plans, and a machine of the same shape
abbrev pub with_fuel : ℕ → Setting → Setting
with_fuel more C = record C { fuel = more }

-- the state of a machine with this fuel, and otherwise the same
abbrev pub state_with_fuel : ℕ → State → State
state_with_fuel more S = record S { setting = with_fuel more S.setting }

-- with this fuel the events do the same: after each prefix of them the state is the same but for the fuel, and they have the same
-- grants, loads and ending
pub record DoTheSame (C : Setting) (more : ℕ) (events : List Event) : Type 0 where
  pub states : OfEachFront (λ (front : List Event). after (initial_state (with_fuel more C)) front ≡ state_with_fuel more (after (initial_state C) front)) events
  pub grants : grants_of (initial_state (with_fuel more C)) events ≡ grants_of (initial_state C) events
  pub loads : all_loads (initial_state (with_fuel more C)) events ≡ all_loads (initial_state C) events
  pub ending : ending_of_run (initial_state (with_fuel more C)) events ≡ ending_of_run (initial_state C) events

-- two records of runs tell the same events, grants and ending
pub record TellTheSame (r s : RunRecord) : Type 0 where
  pub events : s.events ≡ r.events
  pub grants : s.grants ≡ r.grants
  pub ending : s.ending ≡ r.ending
