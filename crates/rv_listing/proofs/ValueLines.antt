-- The lines of first values, region by region.
use Rattle.std.proofs.Common.{◌≡◌, ℕ, ◌+◌, ◌^◌, ◌<◌, ◌≤◌, Bool, true, false, cond, eqb, List, [], ◌∷◌, ◌++◌, length, Option, Some, refl, sym, ap, ◌∙◌, append_assoc, append-nil, length-append, codes, arith}
use Rattle.std.specs.Prelude.{pos}
use Rattle.region_table.specs.declared.declared.Region.{Region}
use Rattle.rv_assembler.specs.declared.names.Meaning.{Meaning}
use Rattle.rv_assembler.specs.declared.draft.Draft.{Draft}
use Rattle.rv_assembler.specs.declared.draft.FirstValue.{FirstValue}
use Rattle.rv_assembler.specs.declared.names.Meaning as in_meaning
use Rattle.rv_assembler.specs.Operand.{bytes_of}
use Rattle.rv_listing.specs.Listing.{text_of, value_line, value_lines}
use Rattle.rv_listing.specs.Law.{AreCodeWords, is_declared_name}
use Rattle.rv_listing.proofs.TokenLemmas.{IsGoodLine, statement-good}
use Rattle.rv_listing.proofs.KindLemmas.{word-kind}
use Rattle.rv_listing.proofs.CodeLemmas.{num, hex, num-op, hex-op}
use Rattle.rv_listing.proofs.CodeSection.{AreShort}
use Rattle.rv_listing.proofs.DirectiveLemmas.{nm, name-op, value-said}
use Rattle.rv_listing.proofs.RegionSection.{IsWithin}
use Rattle.rv_listing.proofs.ValueSection.{value_statement, add_value, total-value}
use Rattle.rv_listing.proofs.MemoryLemmas.{first_value, values_from}
use Rattle.rv_listing.proofs.AddsLemmas.{Adds, size, size-cons, adds-none, adds-join, adds-as, adds-one}

value-good : (n : List ℕ) (i x : ℕ) → is_declared_name n ≡ true → i < 2 ^ 32 → x < 2 ^ 32 → IsGoodLine (value_line n i x)
unfolding value_line
value-good n i x h l m = statement-good (nm (codes ".word")) (nm n ∷ num (pos i) ∷ hex x ∷ []) word-kind.op (name-op n h, (num-op (pos i) l, (hex-op x m, tt)))

abbrev pub add_values : Draft → List FirstValue → Draft
add_values d vs = record d { values = d.values ++ vs }

pub within-values : (v : Bool) (d : Draft) (vs : List FirstValue) → IsWithin v d → IsWithin v (add_values d vs)
within-values v d vs w = record { code = w.code; words = w.words; regions = w.regions; locks = w.locks; phases = w.phases; tasks = w.tasks }

-- a line and the lines behind it
pub behind-line : (text before : List ℕ) (l : List ℕ) (ls : List (List ℕ)) (rest : List ℕ) → text ≡ before ++ (text_of (l ∷ ls) ++ rest) → text ≡ before ++ (l ++ (10 ∷ (text_of ls ++ rest)))
behind-line text before l ls rest e =
    e ∙ ap (λ (x : List ℕ). before ++ x) (append_assoc (l ++ 10 ∷ []) (text_of ls) rest ∙ append_assoc l (10 ∷ []) (text_of ls ++ rest))

pub behind-lines : (text before : List ℕ) (l : List ℕ) (ls : List (List ℕ)) (rest : List ℕ) → text ≡ before ++ (text_of (l ∷ ls) ++ rest) → text ≡ (before ++ (l ++ 10 ∷ [])) ++ (text_of ls ++ rest)
behind-lines text before l ls rest e =
    e ∙ ap (λ (x : List ℕ). before ++ x) (append_assoc (l ++ 10 ∷ []) (text_of ls) rest) ∙ sym (append_assoc before (l ++ 10 ∷ []) (text_of ls ++ rest))

pub behind-size : (before l : List ℕ) (place : ℕ) → place ≡ length before → place + size (l ∷ []) ≡ length (before ++ (l ++ 10 ∷ []))
behind-size before l place e =
    let a = size-cons l [] in
    let b = length-append before (l ++ 10 ∷ []) in
    let c = length-append l (10 ∷ []) in
    omega arith

module _ (v : Bool) (text : List ℕ) (names : List ℕ → Option Meaning) (r : Region) (k : ℕ) (known : names r.name ≡ Some (in_meaning.TheVariants.Region k r.start (pos r.len))) (named : is_declared_name r.name ≡ true) (ends : r.start + r.len ≤ 65536) where
  abbrev Values : ℕ → List (List ℕ) → List FirstValue → Type 0
  Values place lines vs = Adds v text names place lines (IsWithin v) (λ d. add_values d vs)

  values-by : (b : Bool) (before rest : List ℕ) (place i x : ℕ) (xs : List ℕ) → place ≡ length before → text ≡ before ++ (text_of (cond b [] (value_line r.name i x ∷ []) ++ value_lines r.name (i + 1) xs) ++ rest) → i < r.len → x < 2 ^ 32
      → AreShort (cond b [] (value_line r.name i x ∷ []) ++ value_lines r.name (i + 1) xs)
      → ((before' : List ℕ) (place' : ℕ) → place' ≡ length before' → text ≡ before' ++ (text_of (value_lines r.name (i + 1) xs) ++ rest) → AreShort (value_lines r.name (i + 1) xs) → Values place' (value_lines r.name (i + 1) xs) (values_from (r.start + i + 1) xs))
      → Values place (cond b [] (value_line r.name i x ∷ []) ++ value_lines r.name (i + 1) xs) (cond b [] (first_value (r.start + i) x ∷ []) ++ values_from (r.start + i + 1) xs)
  values-by true before rest place i x xs s e l m short next = next before place s e short
  values-by false before rest place i x xs s e l m short next =
      let line = value_line r.name i x in
      let lines = value_lines r.name (i + 1) xs in
      let vs = values_from (r.start + i + 1) xs in
      let said = value-said text before (10 ∷ (text_of lines ++ rest)) place s r.name i x named (omega arith) m (behind-line text before line lines rest e) in
      let found : names (bytes_of text said.token) ≡ Some (in_meaning.TheVariants.Region k r.start (pos r.len)) = ap names said.bytes ∙ known in
      let one = adds-one v text names place line (value_statement said.token i x) (IsWithin v) (λ d. add_value d (r.start + i) x) (value-good r.name i x named (omega arith) m) short.0 said.said
      (λ d n left w. total-value v text names d said.token r k i x found l ends m n left w) (λ c q n left. refl) in
      adds-as v text names place (line ∷ lines) (λ d. IsWithin v d × IsWithin v (add_value d (r.start + i) x)) (IsWithin v) (λ d. add_values (add_value d (r.start + i) x) vs) (λ d. add_values d (first_value (r.start + i) x ∷ vs))
      (adds-join v text names place (line ∷ []) lines (IsWithin v) (IsWithin v) (λ d. add_value d (r.start + i) x) (λ d. add_values d vs) one
      (next (before ++ (line ++ 10 ∷ [])) (place + size (line ∷ [])) (behind-size before line place s) (behind-lines text before line lines rest e) short.1))
      (λ d w. (w, within-values v d (first_value (r.start + i) x ∷ []) w))
      (λ d. ap (λ (l : List FirstValue). record d { values = l }) (append_assoc d.values (first_value (r.start + i) x ∷ []) vs))

  pub values-adds : (before rest : List ℕ) (place i : ℕ) (xs : List ℕ) → place ≡ length before → text ≡ before ++ (text_of (value_lines r.name i xs) ++ rest) → i + length xs ≤ r.len → AreCodeWords xs → AreShort (value_lines r.name i xs)
      → Values place (value_lines r.name i xs) (values_from (r.start + i) xs)
  values-adds before rest place i [] s e l m short =
      adds-as v text names place [] (IsWithin v) (IsWithin v) (λ d. d) (λ d. add_values d []) (adds-none v text names place (IsWithin v)) (λ d w. w)
      (λ d. ap (λ (l : List FirstValue). record d { values = l }) (sym (append-nil d.values)))
  values-adds before rest place i (x ∷ xs) s e l m short =
      values-by (eqb x 0) before rest place i x xs s e (omega arith) m.0 short
      (λ before' place' s' e' short'.
      let f : r.start + (i + 1) ≡ r.start + i + 1 = omega arith in
      let next = values-adds before' rest place' (i + 1) xs s' e' (omega arith) m.1 short' in
      rw f at next)
