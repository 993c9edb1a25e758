-- How the assembler makes the rows of a statement: numbers are taken modulo 2^32, and the number of a core stays at the
-- greatest number of 32 bits. Rows defines the rows; in a text without a fault this gives the same.
use Rattle.std.specs.Prelude.{ℕ, zero, suc, ◌+◌, ◌%◌, ◌^◌, ℤ, List, [], ◌∷◌, Option, Some, None}
use Rattle.src_text.specs.declared.token.Token.{Token}
use Rattle.src_text.specs.declared.token.TokenKind as token
use Rattle.src_text.specs.declared.token.TokenKind.{TokenKind}
use Rattle.rv_assembler.specs.declared.statement.Extent.{Extent}
use Rattle.rv_assembler.specs.declared.statement.Extent as extent
use Rattle.rv_assembler.specs.declared.names.Meaning.{Meaning}
use Rattle.rv_assembler.specs.declared.draft.FirstValue.{FirstValue}
use Rattle.rv_assembler.specs.declared.draft.Start.{Start}
use Rattle.rv_assembler.specs.declared.draft.Usage.{Usage}
use Rattle.rv_assembler.specs.declared.draft.Claim.{Claim}
use Rattle.rv_assembler.specs.declared.draft.Cores.{Cores}
use Rattle.rv_assembler.specs.declared.draft.Span.{Span}
use Rattle.rv_assembler.specs.Number.{wrapped}
use Rattle.rv_assembler.specs.Operand.{bytes_of}
use Rattle.rv_assembler.specs.Emission.{label_address, label_index}
use Rattle.rv_assembler.specs.Gathering.{more}

-- the address of a task's entry, modulo 2^32
abbrev pub wrapped_entry_at : Option ℕ → ℕ
wrapped_entry_at (Some place) = label_address place % 2 ^ 32
wrapped_entry_at None = 0

abbrev pub wrapped_entry_by : (List ℕ → Option Meaning) → List ℕ → TokenKind → ℕ
wrapped_entry_by names name (token.TheVariants.Number n) = wrapped n
wrapped_entry_by names name _ = wrapped_entry_at (label_index (names name))

abbrev pub wrapped_entry : List ℕ → (List ℕ → Option Meaning) → Token → ℕ
wrapped_entry text names t = wrapped_entry_by names (bytes_of text t) t.kind

-- tasks from the first on: each next one is on the next core, and its argument is a step greater
abbrev pub next_task : Start → ℕ → Start
next_task t step = record { phase = t.phase; core = more t.core 1; entry = t.entry; arg = (t.arg + step) % 2 ^ 32 }

abbrev pub members : Start → ℕ → ℕ → List Start
members t step zero = []
members t step (suc n) = t ∷ members (next_task t step) step n

-- the words of an effect for the first of the current tasks, and by how much they move for each next task
abbrev pub extent_start : Span → Extent → ℕ
extent_start p extent.TheVariants.Whole = p.start
extent_start p (extent.TheVariants.Part lo hi) = (p.start + wrapped lo) % 2 ^ 32
extent_start p (extent.TheVariants.Stepped lo hi step) = (p.start + wrapped lo) % 2 ^ 32

abbrev pub past_word : Span → Extent → ℕ
past_word p extent.TheVariants.Whole = (p.start + wrapped p.len) % 2 ^ 32
past_word p (extent.TheVariants.Part lo hi) = (p.start + wrapped hi) % 2 ^ 32
past_word p (extent.TheVariants.Stepped lo hi step) = (p.start + wrapped hi) % 2 ^ 32

abbrev pub step_of : Extent → ℕ
step_of (extent.TheVariants.Stepped lo hi step) = wrapped step
step_of _ = 0

-- claims of the tasks from the first on: each next one is on the next core and a step further
abbrev pub next_claim : Claim → ℕ → Claim
next_claim c step = record { phase = c.phase; core = more c.core 1; usage = c.usage; lo = (c.lo + step) % 2 ^ 32; hi = (c.hi + step) % 2 ^ 32 }

abbrev pub claimed : Claim → ℕ → ℕ → List Claim
claimed c step zero = []
claimed c step (suc n) = c ∷ claimed (next_claim c step) step n

abbrev pub claims_for : ℕ → Cores → Option Span → Option Usage → Extent → List Claim
claims_for phase family (Some p) (Some u) e =
    claimed (record { phase = phase; core = family.first; usage = u; lo = extent_start p e; hi = past_word p e }) (step_of e) family.count
claims_for phase family (Some p) None e = []
claims_for phase family None u e = []

abbrev pub values_for : Option Span → ℤ → ℕ → List FirstValue
values_for None index value = []
values_for (Some p) index value = record { word = (p.start + wrapped index) % 2 ^ 32; value = value } ∷ []
