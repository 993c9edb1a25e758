-- When each event of a run finishes.
use Rattle.std.specs.Prelude.{◌≡◌, ◌⊎◌, ℕ, ◌+◌, ◌<◌, ◌≤◌, List, length, slice_index}
use Rattle.dn_base.specs.declared.ids.Shape.{Shape}
use Rattle.message_net.specs.declared.event.Event.{Event}
use Rattle.region_table.specs.Program.{ProgramParts}
use Rattle.registration_protocol.specs.Node.{Setting}
use Rattle.machine_rules.specs.State.{State, initial_state}
use Rattle.dn_machine.specs.Settings.{IsSettingOf}
use Rattle.run_timing.specs.declared.ticks.Ticks.{Ticks}
use Rattle.run_timing.specs.Depends.{DependsOn}
use Rattle.run_timing.specs.Longest.{FinishesAt}
use Rattle.run_timing.specs.Steps.{step_delay}
use Rattle.run_timing.specs.Ticks.{ticks_at}

-- when event number i of a list finishes
abbrev pub finish_at : List ℕ → ℕ → ℕ
finish_at finishes i = slice_index finishes i

-- a number finishes its ticks after it starts: when the last of those on which it depends has finished and the step from there to it
-- is over; at the beginning if it depends on none
pub record IsBehindAll (Depends : ℕ → ℕ → Type 0) (ticks : ℕ → ℕ) (step : ℕ → ℕ → ℕ) (finish : ℕ → ℕ) (i : ℕ) : Type 0 where
  pub later : (p : ℕ) → Depends p i → finish p + step p i + ticks i ≤ finish i
  pub soon : (finish i ≡ ticks i) ⊎ ((p : ℕ) × Depends p i × (finish i ≡ finish p + step p i + ticks i))

-- the finishes of all events that come from state S on: each is the greatest time of a chain that ends with its event. So each event
-- finishes its ticks after the later of two: the finish of the event before it of its own actor, and its mail's arrival, which is
-- the finish of the event that sent it and the mail's delay
pub record AreFinishes (ticks : Ticks) (S : State) (events : List Event) (finishes : List ℕ) : Type 0 where
  pub one_each : length finishes ≡ length events
  pub longest : (i : ℕ) → i < length events → FinishesAt ticks S events i (finish_at finishes i)
  pub behind : (i : ℕ) → i < length events → IsBehindAll (DependsOn S events) (ticks_at ticks S events) (step_delay ticks S events) (finish_at finishes) i

-- the finishes of a run of the initial machine of this program, shape and fuel
pub record AreFinishesOf (P : ProgramParts) (machine : Shape) (most : ℕ) (events : List Event) (ticks : Ticks) (finishes : List ℕ) : Type 0 where
  pub setting : Setting
  pub setting_is : IsSettingOf P machine most setting
  pub are : AreFinishes ticks (initial_state setting) events finishes
