-- What is tested of a line that is refused, in the words of the language's definition: the number of an instruction, and what a name
-- means.
use Rattle.std.specs.Prelude.{◌≡◌, ℕ, ℤ, Bool, true, Option, Some, None}
use Rattle.rv_isa.specs.Table.{is_stored, has_immediate}
use Rattle.rv_assembler.specs.declared.statement.Code.{Code}
use Rattle.rv_assembler.specs.declared.statement.Code as code
use Rattle.rv_assembler.specs.declared.names.Meaning.{Meaning}
use Rattle.rv_assembler.specs.declared.names.Meaning as meaning
use Rattle.sentences.specs.declared.known.Sort.{Sort}
use Rattle.sentences.specs.declared.known.Sort as sort

-- the number of an instruction that has to be in the range of its row
abbrev pub tested_number : Code → Option ℤ
tested_number (code.TheVariants.Upper adds_pc rd n) = Some n
tested_number (code.TheVariants.JumpRegister rd base n) = Some n
tested_number (code.TheVariants.Load w rd base n) = Some n
tested_number (code.TheVariants.Store w src base n) = Some n
tested_number (code.TheVariants.OpImm o rd a n) = Some n
tested_number _ = None

-- whether the instructions have it: a store of signed bytes, or a subtraction of a number, they have not
abbrev pub has_row : Code → Bool
has_row (code.TheVariants.Store w src base n) = is_stored w
has_row (code.TheVariants.OpImm o rd a n) = has_immediate o
has_row _ = true

-- what a name is declared as, by a line of this number, is what it means
abbrev pub IsMeantAs : Sort → ℕ → Meaning → Type 0
IsMeantAs sort.TheVariants.Label line (meaning.TheVariants.Label l place) = l ≡ line
IsMeantAs (sort.TheVariants.Region len) line (meaning.TheVariants.Region number start n) = n ≡ len
IsMeantAs sort.TheVariants.Lock line (meaning.TheVariants.Lock number) = Unit {0}
IsMeantAs _ line _ = ⊥
