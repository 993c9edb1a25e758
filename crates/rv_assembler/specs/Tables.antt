-- What some lines declare, table by table. Each row is one statement's, and is said by the lines before it: a name that ends with
-- `_by` says what a statement adds to a table, and one with `_at` what a line adds by the lines before it.
use Rattle.std.specs.Prelude.{ℕ, List, [], ◌∷◌, Option, flat_map}
use Rattle.region_table.specs.declared.declared.Region.{Region}
use Rattle.rv_assembler.specs.declared.statement.Statement.{Statement}
use Rattle.rv_assembler.specs.declared.statement.Statement as statement
use Rattle.rv_assembler.specs.declared.parsing.Saying.{Saying}
use Rattle.rv_assembler.specs.declared.names.Meaning.{Meaning}
use Rattle.rv_assembler.specs.declared.draft.FirstValue.{FirstValue}
use Rattle.rv_assembler.specs.declared.draft.Start.{Start}
use Rattle.rv_assembler.specs.declared.draft.Claim.{Claim}
use Rattle.rv_assembler.specs.declared.draft.Cores.{Cores}
use Rattle.rv_assembler.specs.declared.draft.Draft.{Draft}
use Rattle.rv_assembler.specs.Number.{natural_of}
use Rattle.rv_assembler.specs.Operand.{bytes_of}
use Rattle.rv_assembler.specs.Emission.{emission, words_in}
use Rattle.rv_assembler.specs.Named.{region_span, task_entry, usage_of}
use Rattle.rv_assembler.specs.Rows.{first_values, starts, uses_of}
use Rattle.rv_assembler.specs.Placed.{Placed, placed}
use Rattle.rv_assembler.specs.Counts.{code_words, data_words, phases_in, counts_in, family_in}

-- the code: the words of the instructions, one after the other
abbrev pub code_by : List ℕ → (List ℕ → Option Meaning) → ℕ → Statement → List ℕ
code_by text names here (statement.TheVariants.Instruction k) = words_in (emission text names here k)
code_by text names here _ = []

abbrev pub placed_code : List ℕ → (List ℕ → Option Meaning) → Placed Saying → List ℕ
placed_code text names p = code_by text names (code_words p.before) p.here.statement

-- the regions: each begins after all the data words before it
abbrev pub region_by : List ℕ → ℕ → Statement → List Region
region_by text start (statement.TheVariants.Region name len) = record { name = bytes_of text name; start = start; len = natural_of len } ∷ []
region_by text start _ = []

abbrev pub region_at : List ℕ → Placed Saying → List Region
region_at text p = region_by text (data_words p.before) p.here.statement

-- the locks, in order
abbrev pub lock_by : List ℕ → Statement → List (List ℕ)
lock_by text (statement.TheVariants.Lock name) = bytes_of text name ∷ []
lock_by text _ = []

abbrev pub lock_name_at : List ℕ → Placed Saying → List (List ℕ)
lock_name_at text p = lock_by text p.here.statement

-- the first values of words
abbrev pub value_by : List ℕ → (List ℕ → Option Meaning) → Statement → List FirstValue
value_by text names (statement.TheVariants.Word region index value) = first_values (region_span (names (bytes_of text region))) index value
value_by text names _ = []

abbrev pub value_at : List ℕ → (List ℕ → Option Meaning) → Placed Saying → List FirstValue
value_at text names p = value_by text names p.here.statement

-- the tasks, each of the phase that began last
abbrev pub tasks_by : List ℕ → (List ℕ → Option Meaning) → ℕ → Statement → List Start
tasks_by text names phase (statement.TheVariants.Tasks f) =
    starts (record { phase = phase; core = natural_of f.core; entry = task_entry text names f.entry; arg = f.arg }) f.step (natural_of f.count)
tasks_by text names phase _ = []

abbrev pub tasks_at : List ℕ → (List ℕ → Option Meaning) → Placed Saying → List Start
tasks_at text names p = tasks_by text names (phases_in p.before) p.here.statement

-- the words that tasks use: those of each effect, for each task of the family in which it stands
abbrev pub claim_by : List ℕ → (List ℕ → Option Meaning) → ℕ → Cores → Statement → List Claim
claim_by text names phase family (statement.TheVariants.Uses e) =
    uses_of phase family (region_span (names (bytes_of text e.region))) (usage_of text names e) e.extent
claim_by text names phase family _ = []

abbrev pub claim_at : List ℕ → (List ℕ → Option Meaning) → Placed Saying → List Claim
claim_at text names p = claim_by text names (phases_in p.before) (family_in p.before) p.here.statement

-- all tables of some lines, where names mean this
abbrev pub tables : List ℕ → (List ℕ → Option Meaning) → List Saying → Draft
tables text names ss =
    record {
      code = flat_map (placed_code text names) (placed ss);
      regions = flat_map (region_at text) (placed ss);
      locks = flat_map (lock_name_at text) (placed ss);
      values = flat_map (value_at text names) (placed ss);
      tasks = flat_map (tasks_at text names) (placed ss);
      claims = flat_map (claim_at text names) (placed ss);
      phases = phases_in ss;
      family = family_in ss;
      count = counts_in ss;
    }
