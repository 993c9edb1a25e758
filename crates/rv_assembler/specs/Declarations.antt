-- The names that some lines declare, and what a name means.
use Rattle.std.specs.Prelude.{ℕ, Bool, false, ◌||◌, List, [], ◌∷◌, ◌++◌, Option, Some, None, option_map, find, flat_map, bytes_eq}
use Rattle.std.specs.List.{list_any}
use Rattle.src_text.specs.declared.token.Token.{Token}
use Rattle.rv_assembler.specs.declared.statement.Statement.{Statement}
use Rattle.rv_assembler.specs.declared.statement.Statement as statement
use Rattle.rv_assembler.specs.declared.parsing.Saying.{Saying}
use Rattle.rv_assembler.specs.declared.names.Meaning.{Meaning}
use Rattle.rv_assembler.specs.declared.names.Meaning as meaning
use Rattle.rv_assembler.specs.Operand.{bytes_of}
use Rattle.rv_assembler.specs.Placed.{Placed, placed}
use Rattle.rv_assembler.specs.Counts.{code_words, data_words, regions_in, locks_in}

-- a name, and what a line declares it to mean
pub record Declaration : Type 0 where
  pub name : List ℕ
  pub meaning : Meaning

-- a label names the next code word, whose number is how many the lines before have
abbrev pub label_by : List ℕ → List Saying → ℕ → Option Token → List Declaration
label_by text before line None = []
label_by text before line (Some t) = record { name = bytes_of text t; meaning = meaning.TheVariants.Label line (code_words before) } ∷ []

-- a region begins after all data words of the lines before; regions and locks are numbered from 0
abbrev pub named_by : List ℕ → List Saying → Statement → List Declaration
named_by text before (statement.TheVariants.Region name len) =
    record { name = bytes_of text name; meaning = meaning.TheVariants.Region (regions_in before) (data_words before) len } ∷ []
named_by text before (statement.TheVariants.Lock name) =
    record { name = bytes_of text name; meaning = meaning.TheVariants.Lock (locks_in before) } ∷ []
named_by text before _ = []

-- what a line declares: its label, and then its statement's name
abbrev pub declared_at : List ℕ → Placed Saying → List Declaration
declared_at text p = label_by text p.before p.here.line p.here.label ++ named_by text p.before p.here.statement

abbrev pub declarations : List ℕ → List Saying → List Declaration
declarations text ss = flat_map (declared_at text) (placed ss)

-- whether one of these is a declaration of the name
abbrev pub declares : List Declaration → List ℕ → Bool
declares ds q = list_any (λ (d : Declaration). bytes_eq d.name q) ds

-- whether one of these declares a name that is declared before it, by the earlier ones or by these
abbrev pub declare_again : List Declaration → List Declaration → Bool
declare_again earlier [] = false
declare_again earlier (d ∷ ds) = declares earlier d.name || declare_again (earlier ++ d ∷ []) ds

-- the first declaration of a name in a list
abbrev pub meaning_among : List Declaration → List ℕ → Option Meaning
meaning_among ds q = option_map (λ (d : Declaration). d.meaning) (find (λ (d : Declaration). bytes_eq d.name q) ds)

-- what a name means: what the first line that declares it says
abbrev pub meaning_of : List ℕ → List Saying → List ℕ → Option Meaning
meaning_of text ss q = meaning_among (declarations text ss) q
