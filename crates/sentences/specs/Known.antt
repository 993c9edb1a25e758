-- Which line declares a name, and as what.
use Rattle.std.specs.Prelude.{ℕ, Bool, false, List, [], ◌∷◌, Option, Some, None, option_map, bytes_eq, if◌then◌else◌}
use Rattle.std.specs.Option.{option_or}
use Rattle.src_text.specs.declared.token.Token.{Token}
use Rattle.rv_assembler.specs.declared.statement.Statement.{Statement}
use Rattle.rv_assembler.specs.declared.statement.Statement as statement
use Rattle.rv_assembler.specs.declared.parsing.Saying.{Saying}
use Rattle.rv_assembler.specs.declared.parsing.Reading.{Reading}
use Rattle.rv_assembler.specs.declared.parsing.Reading.TheVariants.{Bad, Good}
use Rattle.rv_assembler.specs.Operand.{bytes_of}
use Rattle.rv_assembler.specs.Source.{readings}
use Rattle.sentences.specs.declared.known.Known.{Known}
use Rattle.sentences.specs.declared.known.Sort.{Sort}
use Rattle.sentences.specs.declared.known.Sort as sort

abbrev pub is_labelled : List ℕ → List ℕ → Option Token → Bool
is_labelled text name None = false
is_labelled text name (Some t) = bytes_eq (bytes_of text t) name

abbrev pub sort_if : Bool → Sort → Option Sort
sort_if b s = if b then Some s else None

-- what a statement declares the name as, if it declares it
abbrev pub sort_by : List ℕ → List ℕ → Statement → Option Sort
sort_by text name (statement.TheVariants.Region t len) = sort_if (bytes_eq (bytes_of text t) name) (sort.TheVariants.Region len)
sort_by text name (statement.TheVariants.Lock t) = sort_if (bytes_eq (bytes_of text t) name) sort.TheVariants.Lock
sort_by text name _ = None

-- what a line declares the name as: its label stands before the name of its statement
abbrev pub sort_on : List ℕ → List ℕ → Saying → Option Sort
sort_on text name s = if is_labelled text name s.label then Some sort.TheVariants.Label else sort_by text name s.statement

abbrev pub known_by : List ℕ → List ℕ → Reading → Option Known
known_by text name (Bad f) = None
known_by text name (Good s) = option_map (λ (k : Sort). record { line = s.line; sort = k }) (sort_on text name s)

-- the first of some lines that declares the name
abbrev pub known_among : List ℕ → List ℕ → List Reading → Option Known
known_among text name [] = None
known_among text name (r ∷ rs) = option_or (known_by text name r) (known_among text name rs)

-- the first line of the text that declares the name
unfoldable pub known_in : List ℕ → List ℕ → Option Known
known_in text name = known_among text name (readings text)
