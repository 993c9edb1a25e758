-- What holds of a state by itself, whatever the messages in flight are.
use Rattle.std.specs.Prelude.{◌≡◌, ℕ, ◌+◌, ◌*◌, ◌<◌, ◌≤◌, nat_lt, length, slice_get, slice_index, Some}
use Rattle.std.specs.Option.{is_some}
use Rattle.std.specs.List.{IsAmong}
use Rattle.region_table.specs.declared.declared.TaskDecl.{TaskDecl}
use Rattle.region_table.specs.declared.declared.Phase.{Phase}
use Rattle.region_table.specs.Plan.{ArePlans}
use Rattle.region_table.specs.Program.{ProgramParts, AreTiled, AreEffects, cores_of, IsProgram}
use Rattle.effect_checker.specs.Checked.{IsChecked}
use Rattle.flat_machine.specs.Laws.{AreCoresRising}
use Rattle.message_net.specs.declared.message.Mail.{Mail}
use Rattle.message_net.specs.Pool.{AreDistinct}
use Rattle.registry_bank.specs.Bank.{BankParts, IsBank}
use Rattle.phase_barrier.specs.Barrier.{all_arrived}
use Rattle.registration_protocol.specs.Node.{NodeParts, Setting}
use Rattle.registration_protocol.specs.Fit.{IsContext, Fits}
use Rattle.machine_rules.specs.State.{State, home_at, lock_at}
use Rattle.machine_rules.specs.Next.{actor_index_in}
use Rattle.machine_rules.specs.Flight.{bit}

-- a program of any size: its regions cover its memory; in each phase the tasks stand in rising order of their cores; and the
-- effects of each task are of words of the memory and of locks of the program
pub record IsOfTasks (P : ProgramParts) : Type 0 where
  pub tiled : AreTiled 0 P.regions (length P.memory)
  pub order : AreCoresRising P
  pub effects : (p : Phase) (d : TaskDecl) → IsAmong P.phases p → IsAmong p.tasks d → AreEffects (length P.memory) (length P.locks) d.effects

-- a machine of any size: the plans are those of the program's phases, there are at least as many cores as the program needs, and
-- at least one bank, one set and one way
pub record IsShaped (C : Setting) : Type 0 where
  pub plans : ArePlans C.program C.plans
  pub cores : cores_of C.program ≤ C.shape.cores
  pub some_banks : 0 < C.shape.banks
  pub some_sets : 0 < C.shape.sets
  pub some_ways : 0 < C.shape.ways

-- a setting of any size and any fuel: a checked program, with its plans, and a shape that fits it
pub record IsWellFormed (C : Setting) : Type 0 where
  pub context : IsShaped C
  pub program : IsOfTasks C.program
  pub checked : IsChecked C.program

-- a setting within the limits of the code: a checked program, with its plans, and a shape and fuel that fit it
pub record IsReady (C : Setting) : Type 0 where
  pub context : IsContext C
  pub program : IsProgram C.program
  pub checked : IsChecked C.program

-- a node of the machine at its index, and a bank at its index
pub record IsNodeAt (S : State) (place : ℕ) (n : NodeParts) : Type 0 where
  pub fits : Fits S.setting n
  pub core : n.core ≡ place

pub record IsBankAt (S : State) (place : ℕ) (b : BankParts) : Type 0 where
  pub well : IsBank b
  pub bank : b.bank ≡ place
  pub banks : b.banks ≡ S.setting.shape.banks
  pub cores : b.cores ≡ S.setting.shape.cores

-- a state of the machine of its setting: the program is checked, there are as many nodes, banks and numbers as the machine has
-- actors, each is well formed and at its index, and no two mails have the same id
pub record IsMachine (S : State) : Type 0 where
  pub context : IsShaped S.setting
  pub program : IsOfTasks S.setting.program
  pub checked : IsChecked S.setting.program
  pub nodes : length S.nodes ≡ S.setting.shape.cores
  pub banks : length S.banks ≡ S.setting.shape.banks
  pub numbers : length S.numbers ≡ S.setting.shape.cores + S.setting.shape.banks + 1
  pub node : (core : ℕ) (n : NodeParts) → slice_get S.nodes core ≡ Some n → IsNodeAt S core n
  pub bank : (bank : ℕ) (b : BankParts) → slice_get S.banks bank ≡ Some b → IsBankAt S bank b
  -- a word has a home exactly if the program has the word, and so does a lock
  pub words : (w : ℕ) → is_some (home_at S w) ≡ nat_lt w (length S.setting.program.memory)
  pub locks : (l : ℕ) → is_some (lock_at S l) ≡ nat_lt l (length S.setting.program.locks)
  pub cores : length S.keeper.arrived ≡ S.setting.shape.cores
  pub phases : S.keeper.phases ≡ length S.setting.program.phases
  -- no two mails have one id, and each has a number that its sender has used
  pub distinct : AreDistinct S.mails
  pub numbered : (place : ℕ) (m : Mail) → slice_get S.mails place ≡ Some m → m.id.number < slice_index S.numbers (actor_index_in S m.id.sender)

-- an upper bound for how often the keeper has posted letters
abbrev pub rounds : State → ℕ
rounds S = S.keeper.phase + bit (all_arrived S.keeper)

-- a state after `made` events: each sends at most one mail, except for those in which the keeper sends one to each core
pub record IsSound (S : State) (made : ℕ) : Type 0 where
  pub machine : IsMachine S
  pub mails : length S.mails ≤ made + S.setting.shape.cores * rounds S
  pub sent : (place : ℕ) → slice_index S.numbers place ≤ made + S.setting.shape.cores * rounds S
  pub within : S.keeper.phase ≤ length S.setting.program.phases
