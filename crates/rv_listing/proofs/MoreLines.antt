-- A line without a fault is added, and the lines behind it follow.
use Rattle.std.proofs.Common.{◌≡◌, ℕ, Bool, false, List, ◌∷◌, Option, None, refl}
use Rattle.rv_assembler.specs.declared.parsing.Saying.{Saying}
use Rattle.rv_assembler.specs.declared.parsing.Reading.{Reading}
use Rattle.rv_assembler.specs.declared.parsing.Reading.TheVariants.{Good}
use Rattle.rv_assembler.specs.declared.names.Meaning.{Meaning}
use Rattle.rv_assembler.specs.declared.draft.Draft.{Draft}
use Rattle.rv_assembler.specs.Adding.{draft_after, total}
use Rattle.rv_assembler.specs.Fault.{over_limit}
use Rattle.rv_assembler.specs.Testing.{draft_fault}

pub total-more : (version_2 : Bool) (text : List ℕ) (names : List ℕ → Option Meaning) (d : Draft) (s : Saying) (rs : List Reading) → draft_fault text names d s ≡ None → over_limit version_2 (draft_after text names d s.statement) ≡ false → total version_2 text names d (Good s ∷ rs) ≡ total version_2 text names (draft_after text names d s.statement) rs
total-more version_2 text names d s rs e l = rw (e, l) refl
