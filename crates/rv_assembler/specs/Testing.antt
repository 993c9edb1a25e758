-- How the assembler tests a line of good form: by the tables so far, and by what names mean. Fault defines the faults; this
-- finds the same.
use Rattle.std.specs.Prelude.{ℕ, Bool, true, false, not, ◌||◌, ◌==◌, List, Option, Some, None}
use Rattle.src_text.specs.declared.token.Token.{Token}
use Rattle.rv_assembler.specs.declared.fault.SourceFault.{SourceFault}
use Rattle.rv_assembler.specs.declared.statement.Statement.{Statement}
use Rattle.rv_assembler.specs.declared.statement.Statement as statement
use Rattle.rv_assembler.specs.declared.parsing.Saying.{Saying}
use Rattle.rv_assembler.specs.declared.names.Meaning.{Meaning}
use Rattle.rv_assembler.specs.declared.names.Meaning as meaning
use Rattle.rv_assembler.specs.declared.names.Count.{Count}
use Rattle.rv_assembler.specs.declared.draft.Draft.{Draft}
use Rattle.rv_assembler.specs.Operand.{bytes_of}
use Rattle.rv_assembler.specs.Fault.{first_fault}

-- A name means what the first line that declares it says. So a line declares a name again if the name means something else than
-- this line says: the label of another line, or a region or lock with another number.
abbrev pub label_doubled : Option Meaning → ℕ → Bool
label_doubled (Some (meaning.TheVariants.Label first place)) line = not (first == line)
label_doubled _ line = true

abbrev pub region_doubled : Option Meaning → ℕ → Bool
region_doubled (Some (meaning.TheVariants.Region first start len)) number = not (first == number)
region_doubled _ number = true

abbrev pub lock_doubled : Option Meaning → ℕ → Bool
lock_doubled (Some (meaning.TheVariants.Lock first)) number = not (first == number)
lock_doubled _ number = true

abbrev pub name_doubled : List ℕ → (List ℕ → Option Meaning) → Count → Statement → Bool
name_doubled text names c (statement.TheVariants.Region name len) = region_doubled (names (bytes_of text name)) c.regions
name_doubled text names c (statement.TheVariants.Lock name) = lock_doubled (names (bytes_of text name)) c.locks
name_doubled text names c _ = false

abbrev pub label_of_doubled : List ℕ → (List ℕ → Option Meaning) → ℕ → Option Token → Bool
label_of_doubled text names line None = false
label_of_doubled text names line (Some t) = label_doubled (names (bytes_of text t)) line

abbrev pub doubled_by_meaning : List ℕ → (List ℕ → Option Meaning) → Count → Saying → Bool
doubled_by_meaning text names c s = label_of_doubled text names s.line s.label || name_doubled text names c s.statement

-- the first fault of a line, except for the limits
abbrev pub draft_fault : List ℕ → (List ℕ → Option Meaning) → Draft → Saying → Option SourceFault
draft_fault text names d s = first_fault (doubled_by_meaning text names d.count s) text names d s
