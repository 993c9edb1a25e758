-- What a name is said to be declared as is what it means.
use Rattle.std.proofs.Common.{◌≡◌, ℕ, Bool, true, false, cond, List, [], ◌∷◌, ◌++◌, flat_map, find, bytes_eq, Option, Some, None, option_map, refl, sym, ap, subst}
use Rattle.std.specs.Option.{option_or}
use Rattle.src_text.specs.declared.token.Token.{Token}
use Rattle.rv_assembler.specs.declared.statement.Statement.{Statement}
use Rattle.rv_assembler.specs.declared.statement.Statement as statement
use Rattle.rv_assembler.specs.declared.parsing.Saying.{Saying}
use Rattle.rv_assembler.specs.declared.parsing.Reading.{Reading}
use Rattle.rv_assembler.specs.declared.parsing.Reading.TheVariants.{Bad, Good}
use Rattle.rv_assembler.specs.declared.names.Meaning.{Meaning}
use Rattle.rv_assembler.specs.declared.names.Meaning as meaning
use Rattle.rv_assembler.specs.Operand.{bytes_of}
use Rattle.rv_assembler.specs.Placed.{placed_behind}
use Rattle.rv_assembler.specs.Counts.{code_words, data_words, regions_in, locks_in}
use Rattle.rv_assembler.specs.Declarations.{Declaration, label_by, named_by, declared_at, declarations, meaning_of}
use Rattle.rv_assembler.specs.Source.{sayings, readings}
use Rattle.rv_assembler.proofs.TableLemmas.{place}
use Rattle.sentences.specs.declared.known.Known.{Known}
use Rattle.sentences.specs.declared.known.Sort.{Sort}
use Rattle.sentences.specs.declared.known.Sort as sort
use Rattle.sentences.specs.Known.{is_labelled, sort_if, sort_by, sort_on, known_by, known_among, known_in}
use Rattle.sentences.specs.Ranges.{IsMeantAs}

find-both : {X : Type 0} (p : X → Bool) (xs ys : List X) → find p (xs ++ ys) ≡ option_or (find p xs) (find p ys)
find-both p [] ys = refl
find-both {X} p (x ∷ xs) ys = by (p x) (find-both p xs ys)
  where
    by : (b : Bool) → find p (xs ++ ys) ≡ option_or (find p xs) (find p ys) → cond b (Some x) (find p (xs ++ ys)) ≡ option_or (cond b (Some x) (find p xs)) (find p ys)
    by true e = refl
    by false e = e

-- a sort and a declaration of the line agree
abbrev pub Agree : Option Sort → ℕ → Option Declaration → Type 0
Agree None line None = Unit {0}
Agree None line (Some d) = ⊥
Agree (Some s) line None = ⊥
Agree (Some s) line (Some d) = IsMeantAs s line d.meaning

module _ (text name : List ℕ) where
  abbrev test : Declaration → Bool
  test d = bytes_eq d.name name

  own : (before : List Saying) (line : ℕ) (st : Statement) → Agree (sort_by text name st) line (find test (named_by text before st))
  own before line (statement.TheVariants.Region t len) = by (bytes_eq (bytes_of text t) name)
    where
      by : (b : Bool) → Agree (sort_if b (sort.TheVariants.Region len)) line
          (cond b (Some (record { name = bytes_of text t; meaning = meaning.TheVariants.Region (regions_in before) (data_words before) len })) None)
      by true = refl
      by false = tt
  own before line (statement.TheVariants.Lock t) = by (bytes_eq (bytes_of text t) name)
    where
      by : (b : Bool) → Agree (sort_if b sort.TheVariants.Lock) line (cond b (Some (record { name = bytes_of text t; meaning = meaning.TheVariants.Lock (locks_in before) })) None)
      by true = tt
      by false = tt
  own before line statement.TheVariants.Nothing = tt
  own before line (statement.TheVariants.Instruction k) = tt
  own before line (statement.TheVariants.Word region index value) = tt
  own before line statement.TheVariants.Phase = tt
  own before line (statement.TheVariants.Tasks f) = tt
  own before line (statement.TheVariants.Uses e) = tt

  on-line : (before : List Saying) (s : Saying) → Agree (sort_on text name s) s.line (find test (declared_at text (place before s)))
  on-line before s = by_label s.label
    where
      by_test : (t : Token) (b : Bool)
          → Agree (cond b (Some sort.TheVariants.Label) (sort_by text name s.statement)) s.line
          (cond b (Some (record { name = bytes_of text t; meaning = meaning.TheVariants.Label s.line (code_words before) })) (find test (named_by text before s.statement)))
      by_test t true = refl
      by_test t false = own before s.line s.statement

      by_label : (o : Option Token) → Agree (cond (is_labelled text name o) (Some sort.TheVariants.Label) (sort_by text name s.statement)) s.line
          (find test (label_by text before s.line o ++ named_by text before s.statement))
      by_label None = own before s.line s.statement
      by_label (Some t) = by_test t (bytes_eq (bytes_of text t) name)

  -- what the lines say
  abbrev Tells : Option Known → Option Declaration → Type 0
  Tells None o = o ≡ None
  Tells (Some k) o = (d : Declaration) × (o ≡ Some d) × IsMeantAs k.sort k.line d.meaning

  walk : (before : List Saying) (rs : List Reading) → Tells (known_among text name rs) (find test (flat_map (declared_at text) (placed_behind before (sayings rs))))
  walk before [] = refl
  walk before (Bad f ∷ rs) = walk before rs
  walk before (Good s ∷ rs) =
      subst (Tells (option_or (known_by text name (Good s)) (known_among text name rs)))
      (sym (find-both test (declared_at text (place before s)) (flat_map (declared_at text) (placed_behind (before ++ s ∷ []) (sayings rs)))))
      (joined (sort_on text name s) (find test (declared_at text (place before s))) (on-line before s) (walk (before ++ s ∷ []) rs))
    where
      joined : (k : Option Sort) (o : Option Declaration) → Agree k s.line o
          → Tells (known_among text name rs) (find test (flat_map (declared_at text) (placed_behind (before ++ s ∷ []) (sayings rs))))
          → Tells (option_or (option_map (λ (x : Sort). record { line = s.line; sort = x }) k) (known_among text name rs))
          (option_or o (find test (flat_map (declared_at text) (placed_behind (before ++ s ∷ []) (sayings rs)))))
      joined None None a later = later
      joined None (Some d) a later = absurd a
      joined (Some k) None a later = absurd a
      joined (Some k) (Some d) a later = (d, refl, a)

  whole : Tells (known_in text name) (find test (declarations text (sayings (readings text))))
  unfolding known_in
  whole = walk [] (readings text)

  pub not-meant : known_in text name ≡ None → meaning_of text (sayings (readings text)) name ≡ None
  not-meant e =
      let found : find test (declarations text (sayings (readings text))) ≡ None = subst (λ (o : Option Known). Tells o (find test (declarations text (sayings (readings text))))) e whole in
      ap (option_map (λ (d : Declaration). d.meaning)) found

  pub meant-as : (k : Known) → known_in text name ≡ Some k → (m : Meaning) × (meaning_of text (sayings (readings text)) name ≡ Some m) × IsMeantAs k.sort k.line m
  meant-as k e =
      let found = subst (λ (o : Option Known). Tells o (find test (declarations text (sayings (readings text))))) e whole in
      (found.0.meaning, ap (option_map (λ (d : Declaration). d.meaning)) found.1, found.2)
