-- The line of a first value gives the value.
use Rattle.std.proofs.Common.{◌≡◌, ℕ, ◌+◌, ◌%◌, ◌^◌, ◌<◌, ◌≤◌, Bool, true, not, cond, ◌&&◌, List, [], ◌∷◌, ◌++◌, Option, Some, None, is_none, refl, ap, ◌∙◌, arith}
use Rattle.std.specs.Prelude.{pos, int_le, int_lt}
use Rattle.std.proofs.lemmas.Int.{ints}
use Rattle.src_text.specs.declared.token.Token.{Token}
use Rattle.region_table.specs.declared.declared.Region.{Region}
use Rattle.rv_assembler.specs.declared.fault.SourceFault as fault
use Rattle.rv_assembler.specs.declared.statement.Statement.{Statement}
use Rattle.rv_assembler.specs.declared.parsing.Reading.{Reading}
use Rattle.rv_assembler.specs.declared.names.Meaning.{Meaning}
use Rattle.rv_assembler.specs.declared.draft.Draft.{Draft}
use Rattle.rv_assembler.specs.declared.statement.Statement as in_statement
use Rattle.rv_assembler.specs.declared.names.Meaning as in_meaning
use Rattle.rv_assembler.specs.Number.{wrapped}
use Rattle.rv_assembler.specs.Operand.{bytes_of}
use Rattle.rv_assembler.specs.Named.{region_span}
use Rattle.rv_assembler.specs.Drafting.{values_for}
use Rattle.rv_assembler.specs.Adding.{draft_after, total}
use Rattle.rv_assembler.specs.Fault.{word_far, over_limit}
use Rattle.rv_assembler.specs.Testing.{draft_fault}
use Rattle.rv_listing.proofs.MoreLines.{total-more}
use Rattle.rv_listing.proofs.CodeLemmas.{wrapped-pos}
use Rattle.rv_listing.proofs.ReadLemmas.{sayings}
use Rattle.rv_listing.proofs.RegionSection.{IsWithin, within-limits}
use Rattle.rv_listing.proofs.MemoryLemmas.{first_value}

abbrev pub value_statement : Token → ℕ → ℕ → Statement
value_statement t i x = in_statement.TheVariants.Word t (pos i) (wrapped (pos x))

abbrev pub add_value : Draft → ℕ → ℕ → Draft
add_value d w x = record d { values = d.values ++ first_value w x ∷ [] }

index-within : (i len : ℕ) → i < len → (int_le (pos 0) (pos i) && int_lt (pos i) (pos len)) ≡ true
index-within i len l =
    let a : int_le (pos 0) (pos i) ≡ true = grind (arith, ints) in
    let b : int_lt (pos i) (pos len) ≡ true = grind (arith, ints) in
    rw (a, b) refl

module _ (v : Bool) (text : List ℕ) (names : List ℕ → Option Meaning) (d : Draft) (t : Token) (r : Region) (k i x : ℕ) (found : names (bytes_of text t) ≡ Some (in_meaning.TheVariants.Region k r.start (pos r.len))) (within : i < r.len) (ends : r.start + r.len ≤ 65536) (small : x < 2 ^ 32) where
  value-fault : (n : ℕ) → draft_fault text names d (record { line = n; label = None; statement = value_statement t i x }) ≡ None
  value-fault n =
      ap (λ (o : Option Meaning). cond (word_far (region_span o) (pos i)) (Some (fault.TheVariants.OutOfRange n)) (cond (is_none (region_span o)) (Some (fault.TheVariants.UnknownName n)) None)) found
      ∙ ap (λ (b : Bool). cond (not b) (Some (fault.TheVariants.OutOfRange n)) None) (index-within i r.len within)

  after-value : draft_after text names d (value_statement t i x) ≡ add_value d (r.start + i) x
  after-value =
      let w : wrapped (pos i) ≡ i = wrapped-pos i (omega arith) in
      let place : (r.start + wrapped (pos i)) % 2 ^ 32 ≡ r.start + i = ap (λ (y : ℕ). (r.start + y) % 2 ^ 32) w ∙ (let s : (r.start + i) % 2 ^ 32 ≡ r.start + i = omega arith in s) in
      ap (λ (o : Option Meaning). record d { values = d.values ++ values_for (region_span o) (pos i) (wrapped (pos x)) }) found
      ∙ ap (λ (y : ℕ). record d { values = d.values ++ first_value y (wrapped (pos x)) ∷ [] }) place
      ∙ ap (λ (y : ℕ). record d { values = d.values ++ first_value (r.start + i) y ∷ [] }) (wrapped-pos x small)

  -- one first value more
  pub total-value : (n : ℕ) (rs : List Reading) → IsWithin v d → total v text names d (sayings n (value_statement t i x ∷ []) ++ rs) ≡ total v text names (add_value d (r.start + i) x) rs
  total-value n rs w =
      let a = after-value in
      let next : IsWithin v (add_value d (r.start + i) x) = record { code = w.code; words = w.words; regions = w.regions; locks = w.locks; phases = w.phases; tasks = w.tasks } in
      total-more v text names d (record { line = n; label = None; statement = value_statement t i x }) rs (value-fault n) (ap (over_limit v) a ∙ within-limits v (add_value d (r.start + i) x) next)
      ∙ ap (λ (y : Draft). total v text names y rs) a
