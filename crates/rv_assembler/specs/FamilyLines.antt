-- The lines of `.task` and of effects for which a line of `.forall`, and an effect after it, stand. For the law
-- `a_family_has_the_rows_of_its_lines`.
use Rattle.std.specs.Prelude.{◌≡◌, ℕ, ◌+◌, ◌<◌, pos, ◌+ℤ◌, ◌*ℤ◌, List, Option, Some, flat_map}
use Rattle.std.specs.List.{range_with_len}
use Rattle.src_text.specs.declared.token.Token.{Token}
use Rattle.rv_assembler.specs.declared.kind.Directive.TheVariants.{Task, Forall}
use Rattle.rv_assembler.specs.declared.statement.Effect.{Effect}
use Rattle.rv_assembler.specs.declared.statement.Extent.{Extent}
use Rattle.rv_assembler.specs.declared.statement.Extent.TheVariants.{Whole, Part, Stepped}
use Rattle.rv_assembler.specs.declared.statement.Statement.TheVariants.{Uses}
use Rattle.rv_assembler.specs.declared.names.Meaning.{Meaning}
use Rattle.rv_assembler.specs.declared.draft.Cores.{Cores}
use Rattle.rv_assembler.specs.Number.{natural_of, wrapped}
use Rattle.rv_assembler.specs.Operand.{token_at, number_at}
use Rattle.rv_assembler.specs.Reading.{directive_for}
use Rattle.rv_assembler.specs.Counts.{current_family}
use Rattle.rv_assembler.specs.Tables.{tasks_by, claim_by}
use Rattle.rv_assembler.specs.BaseLine.{AreSpelledAlike}

-- us are the operands of the `.task` line for task i of a `.forall` line with the operands ts: the core f + i, the same entry, and the
-- argument a + i s modulo 2^32
pub record IsTaskLine (text : List ℕ) (ts : List Token) (i : ℕ) (us : List Token) : Type 0 where
  pub core : number_at us 0 ≡ number_at ts 0 +ℤ pos i
  pub entry : AreSpelledAlike text (token_at ts 4) (token_at us 2)
  pub argument : wrapped (number_at us 4) ≡ wrapped (number_at ts 6 +ℤ pos i *ℤ number_at ts 8)

-- task i of a family, as a family of its own
abbrev pub one_of : Cores → ℕ → Cores
one_of family i = record { first = family.first + i; count = 1 }

-- the tasks of a `.forall` line are those of its `.task` lines, one for each of its cores; after each of these lines its task
-- is the only current one
pub record HasTaskLines (text : List ℕ) (ts : List Token) (lines : ℕ → List Token) : Type 0 where
  pub tasks : (names : List ℕ → Option Meaning) (phase : ℕ)
      → tasks_by text names phase (directive_for ts Forall) ≡ flat_map (λ i. tasks_by text names phase (directive_for (lines i) Task)) (range_with_len 0 (natural_of (number_at ts 2)))
  pub cores : (family : Cores) (i : ℕ) → current_family (directive_for ts Forall) ≡ Some family → i < family.count → current_family (directive_for (lines i) Task) ≡ Some (one_of family i)

-- the interval that an effect has for task i, written without a step
abbrev pub interval_at : Extent → ℕ → Extent
interval_at Whole i = Whole
interval_at (Part lo hi) i = Part lo hi
interval_at (Stepped lo hi step) i = Part (lo +ℤ pos i *ℤ step) (hi +ℤ pos i *ℤ step)

-- the words that an effect gives a family are those that it gives each task by its own interval
abbrev pub HasUseLines : List ℕ → ℕ → Cores → Effect → Type 0
HasUseLines text phase family e =
    (names : List ℕ → Option Meaning)
    → claim_by text names phase family (Uses e) ≡ flat_map (λ i. claim_by text names phase (one_of family i) (Uses (record e { extent = interval_at e.extent i }))) (range_with_len 0 family.count)
