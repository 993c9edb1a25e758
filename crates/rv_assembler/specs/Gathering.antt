-- How the assembler finds the names of a text: line by line, with counts of what is declared so far, which stay at the greatest
-- number of 32 bits. Declarations defines what names mean; this gives the same.
use Rattle.std.specs.Prelude.{ℕ, ◌+◌, ◌-◌, ◌^◌, min, List, [], ◌∷◌, Option, Some, None, if◌then◌else◌, bytes_eq}
use Rattle.std.specs.Option.{option_or}
use Rattle.src_text.specs.declared.token.Token.{Token}
use Rattle.rv_assembler.specs.declared.statement.Statement.{Statement}
use Rattle.rv_assembler.specs.declared.statement.Statement as statement
use Rattle.rv_assembler.specs.declared.parsing.Saying.{Saying}
use Rattle.rv_assembler.specs.declared.parsing.Reading.{Reading}
use Rattle.rv_assembler.specs.declared.parsing.Reading.TheVariants.{Bad, Good}
use Rattle.rv_assembler.specs.declared.names.Meaning.{Meaning}
use Rattle.rv_assembler.specs.declared.names.Meaning as meaning
use Rattle.rv_assembler.specs.declared.names.Count.{Count}
use Rattle.rv_assembler.specs.Operand.{bytes_of}
use Rattle.rv_assembler.specs.Size.{code_word_count}
use Rattle.rv_assembler.specs.Counts.{region_words}

-- a count increased by another; it stays at the greatest number of 32 bits, which is far above every limit
abbrev pub more : ℕ → ℕ → ℕ
more count by = min (count + by) (2 ^ 32 - 1)

abbrev pub no_count : Count
no_count = record { code = 0; words = 0; regions = 0; locks = 0 }

-- the counts after a statement
abbrev pub count_behind : Count → Statement → Count
count_behind c (statement.TheVariants.Instruction k) = record { code = more c.code (code_word_count k); words = c.words; regions = c.regions; locks = c.locks }
count_behind c (statement.TheVariants.Region name len) = record { code = c.code; words = more c.words (region_words len); regions = more c.regions 1; locks = c.locks }
count_behind c (statement.TheVariants.Lock name) = record { code = c.code; words = c.words; regions = c.regions; locks = more c.locks 1 }
count_behind c _ = c

-- the counts after a line; a line of bad form declares nothing
abbrev pub count_after : Count → Reading → Count
count_after c (Bad f) = c
count_after c (Good s) = count_behind c s.statement

-- a token gives its bytes a meaning
abbrev pub means : List ℕ → Token → Meaning → List ℕ → Option Meaning
means text t m q = if bytes_eq (bytes_of text t) q then Some m else None

-- a label names the place of the next code word
abbrev pub label_of_means : List ℕ → Count → ℕ → Option Token → List ℕ → Option Meaning
label_of_means text c line None q = None
label_of_means text c line (Some t) q = means text t (meaning.TheVariants.Label line c.code) q

abbrev pub label_means : List ℕ → Count → Saying → List ℕ → Option Meaning
label_means text c s q = label_of_means text c s.line s.label q

abbrev pub name_means : List ℕ → Count → Statement → List ℕ → Option Meaning
name_means text c (statement.TheVariants.Region name len) q = means text name (meaning.TheVariants.Region c.regions c.words len) q
name_means text c (statement.TheVariants.Lock name) q = means text name (meaning.TheVariants.Lock c.locks) q
name_means text c _ q = None

-- what a line declares a name to mean
abbrev pub declared_by : List ℕ → Count → Reading → List ℕ → Option Meaning
declared_by text c (Bad f) q = None
declared_by text c (Good s) q = option_or (label_means text c s q) (name_means text c s.statement q)

-- what a name means: what the first line that declares it says
abbrev pub meaning_in : List ℕ → Count → List Reading → List ℕ → Option Meaning
meaning_in text c [] q = None
meaning_in text c (r ∷ rs) q = option_or (declared_by text c r q) (meaning_in text (count_after c r) rs q)
