-- What holds if no line has a fault.
use Rattle.std.specs.Prelude.{◌≤◌, length}
use Rattle.dn_base.specs.declared.limits.TheConstants.{MOST_WORDS}
use Rattle.region_table.specs.Program.{IsProgram}
use Rattle.rv_assembler.specs.declared.draft.Draft.{Draft}
use Rattle.rv_assembler.specs.Finishing.{finished_program}

-- the lines are within the limits, and add up to a well-formed program
pub record IsWholeDraft (d : Draft) : Type 0 where
  pub words : d.count.words ≤ MOST_WORDS
  pub locks : length d.locks ≤ 32
  pub phases : d.phases ≤ 64
  pub program : IsProgram (finished_program d)
