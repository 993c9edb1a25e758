-- What the names of a listing mean.
use Rattle.std.proofs.Common.{◌≡◌, ℕ, Bool, true, false, cond, List, [], ◌∷◌, ◌++◌, Some, None, bytes_eq, ap, ◌∙◌, ⊎_elim}
use Rattle.std.specs.Option.{option_or}
use Rattle.std.specs.Prelude.{pos}
use Rattle.std.proofs.lemmas.Bool.{cases_Bool}
use Rattle.std.proofs.lemmas.Slice.Eq.{bytes_eq-Decides}
use Rattle.src_text.specs.declared.token.Token.{Token}
use Rattle.region_table.specs.declared.declared.Region.{Region}
use Rattle.rv_assembler.specs.declared.statement.Statement.{Statement}
use Rattle.rv_assembler.specs.declared.parsing.Reading.{Reading}
use Rattle.rv_assembler.specs.declared.names.Count.{Count}
use Rattle.rv_assembler.specs.declared.statement.Statement as in_statement
use Rattle.rv_assembler.specs.declared.names.Meaning as in_meaning
use Rattle.rv_assembler.specs.Operand.{bytes_of}
use Rattle.rv_assembler.specs.Gathering.{count_behind, meaning_in}
use Rattle.rv_listing.proofs.ReadLemmas.{sayings}
use Rattle.rv_listing.proofs.RegionSection.{region_statement}

abbrev pub Differs : List ℕ → List ℕ → Type 0
Differs a b = a ≡ b → ⊥

differ : (a b : List ℕ) → Differs a b → bytes_eq a b ≡ false
differ a b h = ⊎_elim (λ (e : bytes_eq a b ≡ true). absurd (h ((bytes_eq-Decides a b).0 e))) (λ (e : bytes_eq a b ≡ false). e) (cases_Bool (bytes_eq a b))

same : (a b : List ℕ) → a ≡ b → bytes_eq a b ≡ true
same a b e = (bytes_eq-Decides a b).1 e

abbrev pub one_saying : Statement → List Reading
one_saying s = sayings 1 (s ∷ [])

module _ (text : List ℕ) (c : Count) (n : ℕ) (rs : List Reading) (q : List ℕ) where
  pub region-other : (t : Token) (r : Region) → bytes_of text t ≡ r.name → Differs r.name q → meaning_in text c (sayings n (region_statement t r ∷ []) ++ rs) q ≡ meaning_in text (count_behind c (region_statement t r)) rs q
  region-other t r e h =
      let b : bytes_eq (bytes_of text t) q ≡ false = ap (λ (x : List ℕ). bytes_eq x q) e ∙ differ r.name q h in
      ap (λ (x : Bool). option_or (cond x (Some (in_meaning.TheVariants.Region c.regions c.words (pos r.len))) None) (meaning_in text (count_behind c (region_statement t r)) rs q)) b

  pub region-same : (t : Token) (r : Region) → bytes_of text t ≡ r.name → r.name ≡ q → meaning_in text c (sayings n (region_statement t r ∷ []) ++ rs) q ≡ Some (in_meaning.TheVariants.Region c.regions c.words (pos r.len))
  region-same t r e h =
      let b : bytes_eq (bytes_of text t) q ≡ true = ap (λ (x : List ℕ). bytes_eq x q) e ∙ same r.name q h in
      ap (λ (x : Bool). option_or (cond x (Some (in_meaning.TheVariants.Region c.regions c.words (pos r.len))) None) (meaning_in text (count_behind c (region_statement t r)) rs q)) b

  pub lock-other : (t : Token) (l : List ℕ) → bytes_of text t ≡ l → Differs l q → meaning_in text c (sayings n (in_statement.TheVariants.Lock t ∷ []) ++ rs) q ≡ meaning_in text (count_behind c (in_statement.TheVariants.Lock t)) rs q
  lock-other t l e h =
      let b : bytes_eq (bytes_of text t) q ≡ false = ap (λ (x : List ℕ). bytes_eq x q) e ∙ differ l q h in
      ap (λ (x : Bool). option_or (cond x (Some (in_meaning.TheVariants.Lock c.locks)) None) (meaning_in text (count_behind c (in_statement.TheVariants.Lock t)) rs q)) b

  pub lock-same : (t : Token) (l : List ℕ) → bytes_of text t ≡ l → l ≡ q → meaning_in text c (sayings n (in_statement.TheVariants.Lock t ∷ []) ++ rs) q ≡ Some (in_meaning.TheVariants.Lock c.locks)
  lock-same t l e h =
      let b : bytes_eq (bytes_of text t) q ≡ true = ap (λ (x : List ℕ). bytes_eq x q) e ∙ same l q h in
      ap (λ (x : Bool). option_or (cond x (Some (in_meaning.TheVariants.Lock c.locks)) None) (meaning_in text (count_behind c (in_statement.TheVariants.Lock t)) rs q)) b
