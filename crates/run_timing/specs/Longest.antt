-- The longest chain of a run's events.
use Rattle.std.specs.Prelude.{◌≡◌, ℕ, ◌+◌, ◌<◌, ◌≤◌, List, length, map, take, slice_get, Option, Some}
use Rattle.dn_base.specs.declared.ids.Shape.{Shape}
use Rattle.message_net.specs.declared.event.Event.{Event}
use Rattle.region_table.specs.Program.{ProgramParts}
use Rattle.registration_protocol.specs.Node.{Setting}
use Rattle.machine_rules.specs.State.{State, initial_state}
use Rattle.run_timing.specs.declared.ticks.Ticks.{Ticks}
use Rattle.run_timing.specs.declared.timing.Link.{Link}
use Rattle.run_timing.specs.declared.timing.Timing.{Timing}
use Rattle.run_timing.specs.Chains.{IsChain, cost, steps_cost, last_of, IsFinish}
use Rattle.run_timing.specs.Depends.{kind_at, IsOwnBefore, IsSender, DependsOn}
use Rattle.dn_machine.specs.Settings.{IsSettingOf}
use Rattle.run_timing.specs.Network.{told_delay}
use Rattle.run_timing.specs.Steps.{step_delay}
use Rattle.run_timing.specs.Ticks.{ticks_at}

-- a chain of a run's events: a list of their numbers, in which each event depends on the one before it
abbrev pub IsEventChain : State → List Event → List ℕ → Type 0
IsEventChain S events chain = IsChain (DependsOn S events) (length events) chain

-- what it takes: the ticks of its events, and the delays of the messages by which one of its events depends on the one before it
abbrev pub time_of : Ticks → State → List Event → List ℕ → ℕ
time_of ticks S events chain = cost (ticks_at ticks S events) (step_delay ticks S events) chain

-- how much of that are delays; told of a network with a latency alone
abbrev pub network_of : Ticks → State → List Event → List ℕ → Option ℕ
network_of ticks S events chain = told_delay ticks.network (steps_cost (step_delay ticks S events) chain)

-- an event finishes at the greatest time of a chain that ends with it
abbrev pub FinishesAt : Ticks → State → List Event → ℕ → ℕ → Type 0
FinishesAt ticks S events i finish = IsFinish (DependsOn S events) (length events) (ticks_at ticks S events) (step_delay ticks S events) i finish

-- the numbers of the links' events
abbrev pub numbers_in : List Link → List ℕ
numbers_in links = map (λ (link : Link). link.event) links

-- what a link tells of its event: its kind, and when it finishes
pub record IsLinkOf (ticks : Ticks) (S : State) (events : List Event) (link : Link) : Type 0 where
  pub kind : kind_at S events link.event ≡ Some link.kind
  pub finish : FinishesAt ticks S events link.event link.finish

-- the links are the longest chain of the events from state S on, and tell when each of its events finishes
pub record IsLongest (ticks : Ticks) (S : State) (events : List Event) (timing : Timing) : Type 0 where
  -- the links' events are a chain that takes the total, and no chain takes longer
  pub chain : IsEventChain S events (numbers_in timing.links.items)
  pub takes : time_of ticks S events (numbers_in timing.links.items) ≡ timing.total
  pub longest : (other : List ℕ) → IsEventChain S events other → time_of ticks S events other ≤ timing.total
  pub network : timing.network ≡ network_of ticks S events (numbers_in timing.links.items)
  -- a link's finish is the time of the links up to and including it, and its event finishes then
  pub finishes : (k : ℕ) (link : Link) → slice_get timing.links.items k ≡ Some link → link.finish ≡ time_of ticks S events (take (k + 1) (numbers_in timing.links.items))
  pub links : (k : ℕ) (link : Link) → slice_get timing.links.items k ≡ Some link → IsLinkOf ticks S events link
  -- of all longest chains, the links are one that ends with the least event
  pub least : (other : List ℕ) (i j : ℕ) → IsEventChain S events other → time_of ticks S events other ≡ timing.total → last_of (numbers_in timing.links.items) ≡ Some i
      → last_of other ≡ Some j → i ≤ j
  -- if a link's event could start at the same time by its own actor's event before and by its mail, which arrives when its sender has
  -- finished and its delay is over, the link before it is the own actor's event
  pub own : (k : ℕ) (before link : Link) (i j finish sent : ℕ) → slice_get timing.links.items k ≡ Some before → slice_get timing.links.items (k + 1) ≡ Some link
      → IsOwnBefore S events i link.event → IsSender S events j link.event → FinishesAt ticks S events i finish → FinishesAt ticks S events j sent
      → finish + step_delay ticks S events i link.event ≡ sent + step_delay ticks S events j link.event → before.event ≡ i
  -- 25,169,664 events of 1,000,000 ticks, each with a mail that takes 6 hops of 1,000,000; it is below 2^48
  pub bound : timing.total ≤ 176187648000000

-- the timing of a run of the initial machine of this program, shape and fuel
pub record IsTimingOf (P : ProgramParts) (machine : Shape) (most : ℕ) (events : List Event) (ticks : Ticks) (timing : Timing) : Type 0 where
  pub setting : Setting
  pub setting_is : IsSettingOf P machine most setting
  pub longest : IsLongest ticks (initial_state setting) events timing
