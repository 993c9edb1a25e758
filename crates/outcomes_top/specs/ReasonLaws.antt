-- What holds of the register, the load and the acquires that a reason names.
use Rattle.std.specs.Prelude.{◌≡◌, ℕ, false, true, List, None, Some}
use Rattle.std.specs.List.{IsAmong}
use Rattle.region_table.specs.Program.{ProgramParts}
use Rattle.region_table.specs.declared.declared.TaskDecl.{TaskDecl}
use Rattle.region_table.specs.declared.declared.Phase.{Phase}
use Rattle.rv_core.specs.Need.{need_of}
use Rattle.rv_core.specs.Next.{instr_within}
use Rattle.rv_core.specs.declared.need.Need.TheVariants.{Load, Acquire}
use Rattle.common_outcomes.specs.declared.value.Value.{Value}
use Rattle.common_outcomes.specs.Values.{is_known, register_kind}
use Rattle.common_outcomes.specs.Alone.{Setup, Alone, seen, is_settled_next, alone_steps, start_alone, alone}
use Rattle.common_outcomes.specs.Phases.{setup}
use Rattle.outcomes_top.specs.declared.reasons.Read.{Read}
use Rattle.outcomes_top.specs.declared.reasons.Dependence.{Dependence}
use Rattle.outcomes_top.specs.declared.reasons.Taken.{Taken}
use Rattle.outcomes_top.specs.declared.reasons.Taking.{Taking}
use Rattle.outcomes_top.specs.Reasons.{first_open, guard_of}

-- after so many instructions the task alone stands so, hasn't ended, and its control isn't open
pub record ComesTo (S : Setup) (steps : ℕ) (a : Alone) : Type 0 where
  pub is : a ≡ alone_steps S steps (start_alone S)
  pub runs : a.state.end ≡ None
  pub settled : is_settled_next S a ≡ true

-- the task alone makes this load: its next instruction, at this address, loads the word, of which not all is known there; and of the locks
-- that it holds then, this is the least that guards the word for it
pub record IsLoadOf (S : Setup) (read : Read) : Type 0 where
  pub steps : ℕ
  pub before : Alone
  pub comes : ComesTo S steps before
  pub loads : need_of S.program S.decl S.fuel before.state ≡ Load read.word
  pub here : before.state.pc ≡ read.pc
  pub open' : is_known (seen S before.cells read.word.0).kind ≡ false
  pub under : guard_of S.decl before.state.held read.word.0 ≡ read.lock

-- the task alone comes to an instruction at which its control is open. The register is the first that decides what this instruction
-- needs, or where it leads, and of which not all is known; and the task has made the load
pub record IsDependence (S : Setup) (d : Dependence) : Type 0 where
  pub stops : (alone S).state.end ≡ None
  pub decides : first_open (alone S).kinds (instr_within S.program S.fuel (alone S).state) ≡ Some d.register
  pub open' : is_known (register_kind (alone S).kinds d.register) ≡ false
  pub load : IsLoadOf S d.read

-- the task alone makes this acquire: its next instruction, at this address, acquires the lock, while it holds these
pub record IsAcquireOf (S : Setup) (t : Taking) : Type 0 where
  pub steps : ℕ
  pub before : Alone
  pub comes : ComesTo S steps before
  pub acquires : need_of S.program S.decl S.fuel before.state ≡ Acquire t.lock
  pub here : before.state.pc ≡ t.pc
  pub holds : before.state.held ≡ t.held
  pub own : S.decl.core ≡ t.core

-- the task of this core in the phase, alone, makes this acquire
pub record IsMadeIn (P : ProgramParts) (fuel : ℕ) (p : Phase) (first : List Value) (t : Taken) : Type 0 where
  pub decl : TaskDecl
  pub among : IsAmong p.tasks decl
  pub taking : Taking
  pub is : IsAcquireOf (setup P fuel p first decl) taking
  pub core : taking.core ≡ t.core
  pub pc : taking.pc ≡ t.pc
  pub lock : taking.lock ≡ t.lock
