-- Which shapes and fuels fit a program.
use Rattle.std.specs.Prelude.{◌≡◌, ℕ}
use Rattle.std.specs.Int.{IsInRange}
use Rattle.dn_base.specs.declared.ids.Shape.{Shape}
use Rattle.region_table.specs.Program.{ProgramParts, cores_of}

-- the program fits a machine of this shape and fuel: it has as many cores as the program needs, 1 to 16 banks, and caches of 1
-- to 256 sets with 1 to 16 ways; and a task may retire 1 to 32,768 instructions
pub record FitsMachine (program : ProgramParts) (shape : Shape) (fuel : ℕ) : Type 0 where
  pub cores : shape.cores ≡ cores_of program
  pub banks : IsInRange 1 16 shape.banks
  pub sets : IsInRange 1 256 shape.sets
  pub ways : IsInRange 1 16 shape.ways
  pub instructions : IsInRange 1 32768 fuel
