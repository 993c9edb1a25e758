-- The tables with first values and uses of words as the assembler makes them, modulo 2^32.
use Rattle.std.proofs.Common.{ℕ, List, [], Option, flat_map}
use Rattle.rv_assembler.specs.declared.statement.Statement.{Statement}
use Rattle.rv_assembler.specs.declared.statement.Statement as statement
use Rattle.rv_assembler.specs.declared.parsing.Saying.{Saying}
use Rattle.rv_assembler.specs.declared.names.Meaning.{Meaning}
use Rattle.rv_assembler.specs.declared.draft.FirstValue.{FirstValue}
use Rattle.rv_assembler.specs.declared.draft.Claim.{Claim}
use Rattle.rv_assembler.specs.declared.draft.Cores.{Cores}
use Rattle.rv_assembler.specs.declared.draft.Draft.{Draft}
use Rattle.rv_assembler.specs.Operand.{bytes_of}
use Rattle.rv_assembler.specs.Named.{region_span, usage_of}
use Rattle.rv_assembler.specs.Drafting.{claims_for, values_for}
use Rattle.rv_assembler.specs.Placed.{Placed, placed}
use Rattle.rv_assembler.specs.Counts.{phases_in, family_in}
use Rattle.rv_assembler.specs.Tables.{tables}

abbrev pub wrapped_value_by : List ℕ → (List ℕ → Option Meaning) → Statement → List FirstValue
wrapped_value_by text names (statement.TheVariants.Word region index value) = values_for (region_span (names (bytes_of text region))) index value
wrapped_value_by text names _ = []

abbrev pub wrapped_value_at : List ℕ → (List ℕ → Option Meaning) → Placed Saying → List FirstValue
wrapped_value_at text names p = wrapped_value_by text names p.here.statement

abbrev pub wrapped_claim_by : List ℕ → (List ℕ → Option Meaning) → ℕ → Cores → Statement → List Claim
wrapped_claim_by text names phase family (statement.TheVariants.Uses e) =
    claims_for phase family (region_span (names (bytes_of text e.region))) (usage_of text names e) e.extent
wrapped_claim_by text names phase family _ = []

abbrev pub wrapped_claim_at : List ℕ → (List ℕ → Option Meaning) → Placed Saying → List Claim
wrapped_claim_at text names p = wrapped_claim_by text names (phases_in p.before) (family_in p.before) p.here.statement

abbrev pub wrapped_tables : List ℕ → (List ℕ → Option Meaning) → List Saying → Draft
wrapped_tables text names ss =
    record (tables text names ss) {
      values = flat_map (wrapped_value_at text names) (placed ss);
      claims = flat_map (wrapped_claim_at text names) (placed ss);
    }
