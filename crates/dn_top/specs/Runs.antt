-- A program's run on the multicore machine that options ask for, and the outputs that hand it back.
use Rattle.std.specs.Prelude.{◌≡◌, ℕ, List, ◌++◌, Some}
use Rattle.dn_base.specs.declared.ids.Shape.{Shape}
use Rattle.dn_base.specs.Status.{status_of}
use Rattle.region_table.specs.Program.{ProgramParts, cores_of}
use Rattle.machine_rules.specs.State.{initial_state}
use Rattle.message_net.specs.declared.event.Event.{Event}
use Rattle.machine_rules.specs.State.{State}
use Rattle.machine_rules.specs.Sound.{IsReady}
use Rattle.dn_machine.specs.Run.{IsCoherentRun}
use Rattle.dn_machine.specs.Schedule.{IsScheduled}
use Rattle.dn_machine.specs.declared.record.RunRecord.{RunRecord}
use Rattle.run_timing.specs.declared.network.Network.{Network}
use Rattle.run_timing.specs.declared.ticks.Ticks.{Ticks}
use Rattle.run_timing.specs.declared.timing.Timing.{Timing}
use Rattle.run_timing.specs.Ticks.{AreWithinLimits, through, ticks_by}
use Rattle.run_timing.specs.Longest.{IsTimingOf}
use Rattle.run_timing.specs.Text.{timing_of}
use Rattle.time_order.specs.Clock.{clock_at_start}
use Rattle.time_order.specs.TimeOrder.{AreInTimeOrder}
use Rattle.checked_runs.specs.Runs.{IsRunOf, summed_up}
use Rattle.dn_top.specs.declared.options.Order.{Order}
use Rattle.dn_top.specs.declared.options.Order as order
use Rattle.dn_top.specs.declared.options.Options.{Options}
use Rattle.dn_top.specs.declared.output.Output.{Output}

-- the same options, by one worker
abbrev pub with_one_worker : Options → Options
with_one_worker o = record o { workers = 1 }

-- ---- the machine that options ask for

-- it has as many cores as the program needs, and the banks, sets and ways of the options
abbrev pub shape_for : ProgramParts → Options → Shape
shape_for P o = record { cores = cores_of P; banks = o.banks; sets = o.sets; ways = o.ways }

-- ---- how events are picked

-- the network that the options give to messages
abbrev pub network_for : Options → Network
network_for o = record { net = o.net; latency = o.latency }

-- the ticks that the options give to the kinds of event: a core's own, those that a bank handles, and all others; and to messages
abbrev pub ticks_for : Options → Ticks
ticks_for o = through (network_for o) (ticks_by o.tick_core o.tick_bank o.tick_mail)

-- the events from state S on are those that one worker picks: by the words of the seed; or in time order, each as the one that can
-- start first
abbrev pub ArePickedBy : Order → Options → State → List Event → Type 0
ArePickedBy order.TheVariants.Seed o S events = IsScheduled S o.seed events
ArePickedBy order.TheVariants.Time o S events = IsReady S.setting × AreInTimeOrder (ticks_for o) (network_for o) S clock_at_start events

-- r is a run from state S on, with its events picked as the options ask
pub record IsPickedRun (o : Options) (S : State) (r : RunRecord) : Type 0 where
  pub run : IsCoherentRun S r
  pub picked : ArePickedBy o.order o S r.events

-- ---- a run

-- r is a run on the machine that the options ask for, however its events were picked
abbrev pub IsAnyRunFor : ProgramParts → Options → RunRecord → Type 0
IsAnyRunFor P o r = IsRunOf P (shape_for P o) o.fuel r

-- r is such a run. With one worker its events are picked in the order of the options; with more workers the host decides which event
-- comes first
pub record IsRunFor (P : ProgramParts) (o : Options) (r : RunRecord) : Type 0 where
  pub run : IsAnyRunFor P o r
  pub picked : o.workers ≡ 1 → ArePickedBy o.order o (initial_state run.setting) r.events

-- ---- its output

-- the output that hands a run back with these bytes; its status is that of the outcome
abbrev pub output_of_run : List ℕ → RunRecord → Output
output_of_run bytes run = record { status = status_of run.ending.outcome; bytes = bytes; run = Some run }

-- the program was run. The output hands the run back, its bytes are what `print` makes of the run, and its status is that of
-- the outcome
pub record IsPrintedRun (P : ProgramParts) (o : Options) (print : RunRecord → List ℕ) (out : Output) : Type 0 where
  pub run : RunRecord
  pub is : IsRunFor P o run
  pub answer : out ≡ output_of_run (print run) run

-- ---- its timing

-- a run of the program on the machine of this shape was timed with these ticks. The output hands the run back, sums it up, and
-- then tells its longest chain of events
pub record IsTimed (P : ProgramParts) (shape : Shape) (fuel : ℕ) (ticks : Ticks) (run : RunRecord) (out : Output) : Type 0 where
  -- an event of each kind takes 1 to 1,000,000 ticks, and a message at most 1,000,000 for each hop
  pub limits : AreWithinLimits ticks
  pub timing : Timing
  pub times : IsTimingOf P shape fuel run.events ticks timing
  pub answer : out ≡ output_of_run (summed_up run ++ timing_of timing) run

abbrev pub IsTimedFor : ProgramParts → Options → RunRecord → Output → Type 0
IsTimedFor P o run out = IsTimed P (shape_for P o) o.fuel (ticks_for o) run out

-- the program was run, and the run was timed
pub record IsTimedRun (P : ProgramParts) (o : Options) (out : Output) : Type 0 where
  pub run : RunRecord
  pub is : IsRunFor P o run
  pub timed : IsTimedFor P o run out
