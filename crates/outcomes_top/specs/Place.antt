-- What a task alone is run by.
use Rattle.std.specs.Prelude.{ℕ, ◌<◌, ◌≤◌, List, Option, length}
use Rattle.rv_isa.specs.declared.instr.Instr.{Instr}
use Rattle.rv_core.specs.Decoded.{IsDecoded}
use Rattle.common_outcomes.specs.Alone.{Setup}
use Rattle.outcomes_top.specs.Marks.{TellShared}

-- the instructions are those of the program, and the marks those of the phase
pub record IsPlace (S : Setup) (code : List (Option Instr)) (marks : List ℕ) : Type 0 where
  pub instrs : IsDecoded S.program code
  pub tell : TellShared S.phase marks
  pub core : S.decl.core.0 < 16
  pub fuel : S.fuel ≤ 32768
  pub locks : length S.program.locks ≤ 32
