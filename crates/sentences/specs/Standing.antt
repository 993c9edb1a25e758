-- Where a family of tasks stands among the lines before it: before any phase, after a task of its phase on one of its cores, or neither.
use Rattle.std.specs.Prelude.{ℕ, ◌+◌, Bool, ◌&&◌, nat_lt, List, [], ◌∷◌, if◌then◌else◌}
use Rattle.rv_assembler.specs.declared.statement.Statement.{Statement}
use Rattle.rv_assembler.specs.declared.statement.Statement as statement
use Rattle.rv_assembler.specs.declared.statement.Family.{Family}
use Rattle.rv_assembler.specs.declared.parsing.Reading.{Reading}
use Rattle.rv_assembler.specs.declared.parsing.Reading.TheVariants.{Bad, Good}
use Rattle.rv_assembler.specs.declared.draft.Cores.{Cores}
use Rattle.rv_assembler.specs.Number.{wrapped}
use Rattle.rv_assembler.specs.Source.{readings}
use Rattle.sentences.specs.declared.standing.Standing.{Standing}
use Rattle.sentences.specs.declared.standing.Standing.TheVariants.{NoPhase, Free, Taken}

-- the cores of a family, which have 32 bits
abbrev pub cores_of_family : Family → Cores
cores_of_family f = record { first = wrapped f.core; count = wrapped f.count }

abbrev pub begins_below : Cores → Cores → Bool
begins_below a b = nat_lt a.first (b.first + b.count)

-- whether two families have a core in common
unfoldable pub share_core : Family → Family → Bool
share_core f g = begins_below (cores_of_family f) (cores_of_family g) && begins_below (cores_of_family g) (cores_of_family f)

abbrev pub taken_if : Bool → ℕ → Standing
taken_if b line = if b then Taken line else Free

-- after the statement of a line
abbrev pub standing_behind : Family → ℕ → Standing → Statement → Standing
standing_behind f line st statement.TheVariants.Phase = Free
standing_behind f line Free (statement.TheVariants.Tasks g) = taken_if (share_core f g) line
standing_behind f line st _ = st

-- after one more line, if it stands before the family's line
abbrev pub standing_with : Family → ℕ → Standing → Reading → Standing
standing_with f line st (Bad r) = st
standing_with f line st (Good s) = if nat_lt s.line line then standing_behind f s.line st s.statement else st

abbrev pub standing_after : Family → ℕ → Standing → List Reading → Standing
standing_after f line st [] = st
standing_after f line st (r ∷ rs) = standing_after f line (standing_with f line st r) rs

-- of the family of a line
unfoldable pub standing_in : List ℕ → ℕ → Family → Standing
standing_in text line f = standing_after f line NoPhase (readings text)
