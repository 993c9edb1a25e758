-- How many code words, data words, regions, locks and phases some lines have together.
use Rattle.std.specs.Prelude.{ℕ, ℤ, ◌≤◌, if◌then◌else◌, Bool, true, false, List, Option, Some, None, filter_map, sum_by, count_by, unwrap_or}
use Rattle.std.specs.List.{last_or}
use Rattle.rv_assembler.specs.declared.statement.Statement.{Statement}
use Rattle.rv_assembler.specs.declared.statement.Statement as statement
use Rattle.rv_assembler.specs.declared.parsing.Saying.{Saying}
use Rattle.rv_assembler.specs.declared.names.Count.{Count}
use Rattle.rv_assembler.specs.declared.draft.Cores.{Cores}
use Rattle.rv_assembler.specs.Number.{natural_of, is_length}
use Rattle.rv_assembler.specs.Size.{code_word_count}
use Rattle.rv_assembler.specs.Named.{no_cores}
use Rattle.rv_assembler.specs.Placed.{Placed}

-- how many words a region has; none if its number is out of range
abbrev pub region_words : ℤ → ℕ
region_words len = if is_length len then natural_of len else 0

-- how many code words and data words a statement is
abbrev pub code_size : Statement → ℕ
code_size (statement.TheVariants.Instruction k) = code_word_count k
code_size _ = 0

abbrev pub data_size : Statement → ℕ
data_size (statement.TheVariants.Region name len) = region_words len
data_size _ = 0

abbrev pub is_region : Statement → Bool
is_region (statement.TheVariants.Region name len) = true
is_region _ = false

abbrev pub is_lock : Statement → Bool
is_lock (statement.TheVariants.Lock name) = true
is_lock _ = false

abbrev pub is_phase : Statement → Bool
is_phase statement.TheVariants.Phase = true
is_phase _ = false

-- the number of code words of some lines, and of data words, which is the sum of the lengths of their regions
abbrev pub code_words : List Saying → ℕ
code_words ss = sum_by (λ (s : Saying). code_size s.statement) ss

abbrev pub data_words : List Saying → ℕ
data_words ss = sum_by (λ (s : Saying). data_size s.statement) ss

-- their regions, locks and phases
abbrev pub regions_in : List Saying → ℕ
regions_in ss = count_by (λ (s : Saying). is_region s.statement) ss

abbrev pub locks_in : List Saying → ℕ
locks_in ss = count_by (λ (s : Saying). is_lock s.statement) ss

abbrev pub phases_in : List Saying → ℕ
phases_in ss = count_by (λ (s : Saying). is_phase s.statement) ss

abbrev pub counts_in : List Saying → Count
counts_in ss = record { code = code_words ss; words = data_words ss; regions = regions_in ss; locks = locks_in ss }

-- the cores of the tasks that a statement makes the current ones: a phase begins with none
abbrev pub current_family : Statement → Option Cores
current_family statement.TheVariants.Phase = Some no_cores
current_family (statement.TheVariants.Tasks f) = Some (record { first = natural_of f.core; count = natural_of f.count })
current_family _ = None

-- the cores of the current tasks after some lines: those of the last `.task` or `.forall` of the last phase
abbrev pub family_in : List Saying → Cores
family_in ss = unwrap_or (last_or None (filter_map (λ (s : Saying). current_family s.statement) ss)) no_cores

-- What stands before a line of good form fits 32 bits: the number of the code word to which its label points, the first word of
-- its region, and the numbers of its region, its lock and its phase.
pub record HasFewBefore (p : Placed Saying) : Type 0 where
  pub code : code_words p.before ≤ 131070
  pub words : data_words p.before ≤ 4294901760
  pub regions : regions_in p.before ≤ 65535
  pub locks : locks_in p.before ≤ 65535
  pub phases : phases_in p.before ≤ 65535
