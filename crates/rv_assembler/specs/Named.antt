-- What the names in a statement stand for: a region, a lock, the entry of a task, and how an effect uses words.
use Rattle.std.specs.Prelude.{ℕ, Bool, List, Option, Some, None, option_map, if◌then◌else◌}
use Rattle.src_text.specs.declared.token.Token.{Token}
use Rattle.src_text.specs.declared.token.TokenKind as token
use Rattle.src_text.specs.declared.token.TokenKind.{TokenKind}
use Rattle.rv_assembler.specs.declared.statement.Effect.{Effect}
use Rattle.rv_assembler.specs.declared.names.Meaning.{Meaning}
use Rattle.rv_assembler.specs.declared.names.Meaning as meaning
use Rattle.rv_assembler.specs.declared.draft.Usage.{Usage}
use Rattle.rv_assembler.specs.declared.draft.Usage.TheVariants.{Reads, Writes, GuardedReads, GuardedWrites}
use Rattle.rv_assembler.specs.declared.draft.Cores.{Cores}
use Rattle.rv_assembler.specs.declared.draft.Span.{Span}
use Rattle.rv_assembler.specs.Number.{natural_of}
use Rattle.rv_assembler.specs.Operand.{bytes_of}
use Rattle.rv_assembler.specs.Emission.{label_address, label_index}

abbrev pub no_cores : Cores
no_cores = record { first = 0; count = 0 }

-- the region and the lock that a name means
abbrev pub region_span : Option Meaning → Option Span
region_span (Some (meaning.TheVariants.Region number start len)) = Some (record { start = start; len = len })
region_span _ = None

abbrev pub lock_number : Option Meaning → Option ℕ
lock_number (Some (meaning.TheVariants.Lock number)) = Some number
lock_number _ = None

-- the address of a task's entry: a number itself, or where a label points
abbrev pub entry_address : Option ℕ → ℕ
entry_address (Some place) = label_address place
entry_address None = 0

abbrev pub entry_value : (List ℕ → Option Meaning) → List ℕ → TokenKind → ℕ
entry_value names name (token.TheVariants.Number n) = natural_of n
entry_value names name _ = entry_address (label_index (names name))

abbrev pub task_entry : List ℕ → (List ℕ → Option Meaning) → Token → ℕ
task_entry text names t = entry_value names (bytes_of text t) t.kind

abbrev pub plain_usage : Bool → Usage
plain_usage writes = if writes then Writes else Reads

abbrev pub under_lock : Bool → ℕ → Usage
under_lock writes lock = if writes then GuardedWrites lock else GuardedReads lock

-- how a task uses the words of an effect, if the lock is declared
abbrev pub usage_by : List ℕ → (List ℕ → Option Meaning) → Bool → Option Token → Option Usage
usage_by text names writes None = Some (plain_usage writes)
usage_by text names writes (Some lock) = option_map (under_lock writes) (lock_number (names (bytes_of text lock)))

abbrev pub usage_of : List ℕ → (List ℕ → Option Meaning) → Effect → Option Usage
usage_of text names e = usage_by text names e.writes e.lock
