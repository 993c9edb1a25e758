-- The faults of a line of good form, each as a test of the line, of the lines of good form before it and their tables, and of
-- what names mean. Tests with `far` in their name find a number out of its range, or a label that is too far away. Tests with
-- `lost` find a name that isn't declared as what is wanted.
use Rattle.std.specs.Prelude.{ℕ, ◌%◌, ℤ, pos, ◌+ℤ◌, ◌*ℤ◌, int_le, int_lt, Bool, true, false, not, ◌&&◌, ◌||◌, nat_lt, ◌==◌, List, length, Option, Some, None, is_none, if◌then◌else◌}
use Rattle.std.specs.List.{list_all, list_any, range_with_len}
use Rattle.src_text.specs.declared.token.Token.{Token}
use Rattle.src_text.specs.declared.token.TokenKind as token
use Rattle.src_text.specs.declared.token.TokenKind.{TokenKind}
use Rattle.rv_assembler.specs.declared.fault.SourceFault.{SourceFault}
use Rattle.rv_assembler.specs.declared.fault.SourceFault as fault
use Rattle.rv_assembler.specs.declared.statement.Statement.{Statement}
use Rattle.rv_assembler.specs.declared.statement.Statement as statement
use Rattle.rv_assembler.specs.declared.statement.Family.{Family}
use Rattle.rv_assembler.specs.declared.statement.Effect.{Effect}
use Rattle.rv_assembler.specs.declared.statement.Extent.{Extent}
use Rattle.rv_assembler.specs.declared.statement.Extent as extent
use Rattle.rv_assembler.specs.declared.parsing.Saying.{Saying}
use Rattle.rv_assembler.specs.declared.names.Meaning.{Meaning}
use Rattle.rv_assembler.specs.declared.emission.Emission.{Emission}
use Rattle.rv_assembler.specs.declared.emission.Emission.TheVariants.{OutOfRange, Unknown}
use Rattle.rv_assembler.specs.declared.draft.Start.{Start}
use Rattle.rv_assembler.specs.declared.draft.Draft.{Draft}
use Rattle.rv_assembler.specs.declared.draft.Span.{Span}
use Rattle.rv_assembler.specs.Number.{natural_of, is_within, is_length, is_interval}
use Rattle.rv_assembler.specs.Operand.{bytes_of}
use Rattle.rv_assembler.specs.Emission.{emission, label_index}
use Rattle.rv_assembler.specs.Named.{region_span, lock_number}
use Rattle.rv_assembler.specs.Declarations.{declarations, declared_at, declare_again}
use Rattle.rv_assembler.specs.Tables.{tables}

abbrev pub is_far : Emission → Bool
is_far OutOfRange = true
is_far _ = false

abbrev pub is_lost : Emission → Bool
is_lost Unknown = true
is_lost _ = false

-- whether the effect's interval, moved on i times by the step, lies in the region; it is the interval of task i
abbrev pub fits_at : ℤ → ℤ → ℤ → ℤ → ℕ → Bool
fits_at len step lo hi i = is_interval (lo +ℤ pos i *ℤ step) (hi +ℤ pos i *ℤ step) len

-- whether those of all tasks of a family are
abbrev pub stepped_fits : ℤ → ℤ → ℤ → ℤ → ℕ → Bool
stepped_fits len step lo hi n = list_all (fits_at len step lo hi) (range_with_len 0 n)

-- whether the words of an effect are too far; if the region isn't declared, they aren't tested
abbrev pub extent_far : Option Span → Extent → ℕ → Bool
extent_far None e n = false
extent_far (Some p) extent.TheVariants.Whole n = false
extent_far (Some p) (extent.TheVariants.Part lo hi) n = not (is_interval lo hi p.len)
extent_far (Some p) (extent.TheVariants.Stepped lo hi step) n = not (stepped_fits p.len step lo hi n)

abbrev pub word_far : Option Span → ℤ → Bool
word_far None i = false
word_far (Some p) i = not (int_le (pos 0) i && int_lt i p.len)

-- the address of an entry has 32 bits, and is a multiple of 4
abbrev pub is_address : ℤ → Bool
is_address n = is_within (pos 0) (pos 0x1_0000_0000) n && natural_of n % 4 == 0

abbrev pub entry_far : TokenKind → Bool
entry_far (token.TheVariants.Number n) = not (is_address n)
entry_far _ = false

-- the cores of a family are some of 0 to 15
abbrev pub are_cores : Family → Bool
are_cores f = int_le (pos 0) f.core && int_le (pos 1) f.count && int_le (f.core +ℤ f.count) (pos 16)

abbrev pub family_far : Family → Bool
family_far f = not (are_cores f) || entry_far f.entry.kind

-- OutOfRange: a number is outside its range, or a label too far
abbrev pub out_of_range : List ℕ → (List ℕ → Option Meaning) → Draft → Statement → Bool
out_of_range text names d (statement.TheVariants.Instruction k) = is_far (emission text names d.count.code k)
out_of_range text names d (statement.TheVariants.Region name len) = not (is_length len)
out_of_range text names d (statement.TheVariants.Word region index value) = word_far (region_span (names (bytes_of text region))) index
out_of_range text names d (statement.TheVariants.Tasks f) = family_far f
out_of_range text names d (statement.TheVariants.Uses e) = extent_far (region_span (names (bytes_of text e.region))) e.extent d.family.count
out_of_range text names d _ = false

-- DoubleName: a name of this line was declared before, by a line of good form, or stands in this line's declarations twice
abbrev pub doubled : List ℕ → List Saying → Saying → Bool
doubled text before s = declare_again (declarations text before) (declared_at text (record { before = before; here = s }))

abbrev pub entry_kind_lost : TokenKind → Option Meaning → Bool
entry_kind_lost (token.TheVariants.Number n) m = false
entry_kind_lost _ m = is_none (label_index m)

abbrev pub entry_lost : List ℕ → (List ℕ → Option Meaning) → Token → Bool
entry_lost text names t = entry_kind_lost t.kind (names (bytes_of text t))

abbrev pub lock_lost : List ℕ → (List ℕ → Option Meaning) → Option Token → Bool
lock_lost text names None = false
lock_lost text names (Some t) = is_none (lock_number (names (bytes_of text t)))

abbrev pub effect_lost : List ℕ → (List ℕ → Option Meaning) → Effect → Bool
effect_lost text names e = is_none (region_span (names (bytes_of text e.region))) || lock_lost text names e.lock

-- UnknownName: a name isn't declared as what is wanted
abbrev pub unknown : List ℕ → (List ℕ → Option Meaning) → ℕ → Statement → Bool
unknown text names here (statement.TheVariants.Instruction k) = is_lost (emission text names here k)
unknown text names here (statement.TheVariants.Word region index value) = is_none (region_span (names (bytes_of text region)))
unknown text names here (statement.TheVariants.Tasks f) = entry_lost text names f.entry
unknown text names here (statement.TheVariants.Uses e) = effect_lost text names e
unknown text names here _ = false

-- whether it is a task of the phase on one of the family's cores
abbrev pub is_on : ℕ → Family → Start → Bool
is_on phase f t = t.phase == phase && is_within f.core (f.core +ℤ f.count) (pos t.core)

abbrev pub core_in_use : List Start → ℕ → Family → Bool
core_in_use tasks phase f = list_any (is_on phase f) tasks

-- Misplaced: tasks before any phase or on a core that has one in this phase, or an effect without a current task
abbrev pub misplaced : Draft → Statement → Bool
misplaced d (statement.TheVariants.Tasks f) = d.phases == 0 || core_in_use d.tasks d.phases f
misplaced d (statement.TheVariants.Uses e) = d.family.count == 0
misplaced d _ = false

abbrev pub most_regions : Bool → ℕ
most_regions version_2 = if version_2 then 4096 else 256

-- Limit: more than a program may have
abbrev pub over_limit : Bool → Draft → Bool
over_limit version_2 d =
    nat_lt 16384 (length d.code) || (nat_lt 65536 d.count.words || (nat_lt (most_regions version_2) (length d.regions)
    || (nat_lt 32 (length d.locks) || (nat_lt 64 d.phases || nat_lt 64 (length d.tasks)))))

-- the first fault of a line, except for the limits; `again` says whether the line declares a name that is already declared
abbrev pub first_fault : Bool → List ℕ → (List ℕ → Option Meaning) → Draft → Saying → Option SourceFault
first_fault again text names d s =
    if out_of_range text names d s.statement then Some (fault.TheVariants.OutOfRange s.line)
    else (if again then Some (fault.TheVariants.DoubleName s.line)
    else (if unknown text names d.count.code s.statement then Some (fault.TheVariants.UnknownName s.line)
    else (if misplaced d s.statement then Some (fault.TheVariants.Misplaced s.line)
    else None)))

-- the same by the lines of good form before it
abbrev pub early_fault : List ℕ → (List ℕ → Option Meaning) → List Saying → Saying → Option SourceFault
early_fault text names before s = first_fault (doubled text before s) text names (tables text names before) s

abbrev pub limit_fault : Bool → Draft → ℕ → Option SourceFault
limit_fault version_2 d line = if over_limit version_2 d then Some (fault.TheVariants.Limit line) else None
