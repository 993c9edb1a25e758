-- A run of a checked program on the multicore machine: what is promised of it, and how it is printed.
use Rattle.std.specs.Prelude.{◌≡◌, ℕ, ◌<◌, ◌≤◌, List, [], length, sum, Option, Some}
use Rattle.std.specs.Option.{option_map}
use Rattle.dn_base.specs.declared.limits.TheConstants.{MOST_WORDS}
use Rattle.dn_base.specs.declared.ids.Shape.{Shape}
use Rattle.region_table.specs.Program.{ProgramParts}
use Rattle.rv_core.specs.declared.ending.Ending.{Ending}
use Rattle.registration_protocol.specs.Node.{Setting}
use Rattle.flat_machine.specs.declared.ending.FlatEnd.{FlatEnd}
use Rattle.flat_machine.specs.Ending.{flat_end}
use Rattle.machine_rules.specs.State.{initial_state}
use Rattle.machine_rules.specs.Runs.{all_loads}
use Rattle.dn_machine.specs.Settings.{IsSettingOf}
use Rattle.dn_machine.specs.Run.{IsCoherentRun}
use Rattle.dn_machine.specs.declared.record.RunRecord.{RunRecord}
use Rattle.run_report.specs.Run.{report_of}
use Rattle.run_report.specs.Summary.{summary_of}
use Rattle.checked_runs.specs.Causes.{IsCaused}

-- ---- one thread on one memory

-- the flat machine's run by the grants of r has an end. Its loads are those of r's events, task by task. Its ending, that is
-- the memory, the ends of the tasks and the outcome, is that of r
pub record HasFlatRun (C : Setting) (r : RunRecord) : Type 0 where
  pub end' : FlatEnd
  pub value : flat_end C.program C.fuel r.grants ≡ Some end'
  pub loads : end'.loads ≡ all_loads (initial_state C) r.events
  pub ending : end'.ending ≡ r.ending

-- how the flat machine's run without grants ends: a function of the program and the fuel
abbrev pub ending_alone : ProgramParts → ℕ → Option Ending
ending_alone P fuel = option_map (λ (e : FlatEnd). e.ending) (flat_end P fuel [])

-- r has no grants, and ends as the flat machine's run without grants
pub record IsWithoutGrants (P : ProgramParts) (fuel : ℕ) (r : RunRecord) : Type 0 where
  pub grants : r.grants ≡ []
  pub ending : ending_alone P fuel ≡ Some r.ending

-- ---- a run

-- r is a run of the program P on the machine of this shape, whose tasks may retire `fuel` instructions
pub record IsRunOf (P : ProgramParts) (shape : Shape) (fuel : ℕ) (r : RunRecord) : Type 0 where
  -- the setting; a program, a shape and a fuel have exactly one
  pub setting : Setting
  pub setting_is : IsSettingOf P shape fuel setting
  -- its events are a complete run of the initial machine, which is at rest after it. After each event the state is coherent,
  -- and the loads are prefixes of those of one thread. The grants, counts and ending are read off the events
  pub machine : IsCoherentRun (initial_state setting) r
  -- there is a count of each of the seventeen kinds of event
  pub each_kind : length r.counts.kinds ≡ 17
  -- one thread on one memory, which takes the critical sections in the order of the grants, has the same loads and the same end
  pub flat : HasFlatRun setting r
  -- if it is out of fuel or stuck, its tasks are the cause
  pub caused : IsCaused P fuel r.grants r.ending
  -- without locks, how it ends depends only on the program and the fuel
  pub lock_free : P.locks ≡ [] → IsWithoutGrants P fuel r

-- ---- its texts

-- a run printed as its answer, its grants and its counts; or only summed up
abbrev pub reported : RunRecord → List ℕ
reported r = report_of r.ending r.grants r.counts

abbrev pub summed_up : RunRecord → List ℕ
summed_up r = summary_of r.ending

-- a run with no more words, tasks and events than can be printed
pub record IsPrintable (r : RunRecord) : Type 0 where
  pub words : length r.ending.memory ≤ MOST_WORDS
  pub tasks : length r.ending.tasks ≤ 64
  pub events : sum r.counts.kinds < 18446744073709551616
