-- The pairs stay of different words.
use Rattle.std.proofs.Common.{◌≡◌, ℕ, ◌==◌, Bool, true, false, not, cond, List, [], ◌∷◌, ◌++◌, map, Option, Some, None, refl, arith, ap, ◌∙◌}
use Rattle.std.specs.List.{filter}
use Rattle.std.specs.Option.{option_map}
use Rattle.std.proofs.lemmas.Bool.Decides.{nat_tests}
use Rattle.dn_base.specs.declared.ids.WordId.{WordId}
use Rattle.region_table.specs.declared.interval.Interval.{Interval}
use Rattle.write_signature.specs.declared.signature.Signature.{Signature}
use Rattle.word_cache.specs.declared.row.Entry.{Entry}
use Rattle.word_cache.specs.Cache.{Pair, AreDifferent, is_of, lookup, without, put, changed, used, touched, stays, unmarked, is_fresh, dropped_written, dropped_signed}
use Rattle.word_cache.proofs.LookLemmas.{same_word, lookup-last, lookup-without, lookup-changed, lookup-map}

-- a word that no pair is of has none after pairs were left out
fewer : (f : Pair → Bool) (w : ℕ) (ps : List Pair) → lookup w ps ≡ None → lookup w (filter f ps) ≡ None
fewer f w [] none = refl
fewer f w (p ∷ ps) none = by_tests (p.0.0 == w) (f p) refl none (fewer f w ps) where
  by_tests : (t u : Bool) → (p.0.0 == w) ≡ t → cond t (Some p.1) (lookup w ps) ≡ None → (lookup w ps ≡ None → lookup w (filter f ps) ≡ None) → lookup w (cond u (p ∷ filter f ps) (filter f ps)) ≡ None
  by_tests true u a none rest = absurd (cc)
  by_tests false true a none rest = rw a (rest none)
  by_tests false false a none rest = rest none

pub different-filter : (f : Pair → Bool) (ps : List Pair) → AreDifferent ps → AreDifferent (filter f ps)
different-filter f [] apart = tt
different-filter f (p ∷ ps) apart = by_test (f p) (different-filter f ps apart.1) where
  by_test : (t : Bool) → AreDifferent (filter f ps) → AreDifferent (cond t (p ∷ filter f ps) (filter f ps))
  by_test true rest = (fewer f p.0.0 ps apart.0, rest)
  by_test false rest = rest

pub different-map : (g : Entry → Entry) (ps : List Pair) → AreDifferent ps → AreDifferent (map (λ (p : Pair). (p.0, g p.1)) ps)
different-map g [] apart = tt
different-map g (p ∷ ps) apart =
    (lookup-map g p.0.0 ps ∙ ap (option_map g) apart.0, different-map g ps apart.1)

changed-none : (w v : ℕ) (e : Entry) (ps : List Pair) → lookup v ps ≡ None → lookup v (changed w e ps) ≡ None
changed-none w v e ps none = lookup-changed w v e ps ∙ by_test (w == v) refl where
  by_test : (t : Bool) → (w == v) ≡ t → cond t (option_map (λ (_ : Entry). e) (lookup w ps)) (lookup v ps) ≡ None
  by_test true a = ap (option_map (λ (_ : Entry). e)) (same_word w v ps a ∙ none)
  by_test false a = none

pub different-changed : (w : ℕ) (e : Entry) (ps : List Pair) → AreDifferent ps → AreDifferent (changed w e ps)
different-changed w e [] apart = tt
different-changed w e (p ∷ ps) apart = by_test (is_of w p) (different-changed w e ps apart.1) where
  by_test : (t : Bool) → AreDifferent (changed w e ps) → AreDifferent (cond t (p.0, e) p ∷ changed w e ps)
  by_test true rest = (changed-none w p.0.0 e ps apart.0, rest)
  by_test false rest = (changed-none w p.0.0 e ps apart.0, rest)

pub different-without : (w : ℕ) (ps : List Pair) → AreDifferent ps → AreDifferent (without w ps)
different-without w ps apart = different-filter (λ (p : Pair). not (is_of w p)) ps apart

different-last : (word : WordId) (e : Entry) (ps : List Pair) → lookup word.0 ps ≡ None → AreDifferent ps → AreDifferent (ps ++ (word, e) ∷ [])
different-last word e [] none apart = (refl, tt)
different-last word e (p ∷ ps) none apart = by_test (p.0.0 == word.0) refl none (λ absent. different-last word e ps absent apart.1) where
  by_test : (t : Bool) → (p.0.0 == word.0) ≡ t → cond t (Some p.1) (lookup word.0 ps) ≡ None → (lookup word.0 ps ≡ None → AreDifferent (ps ++ (word, e) ∷ [])) → AreDifferent ((p ∷ ps) ++ (word, e) ∷ [])
  by_test true a none rest = absurd (cc)
  by_test false a none rest =
      let other : (word.0 == p.0.0) ≡ false = grind (arith, nat_tests) in
      (lookup-last word e p.0.0 ps none ∙ rw other apart.0, rest none)

pub different-put : (word : WordId) (e : Entry) (ps : List Pair) → AreDifferent ps → AreDifferent (put word e ps)
different-put word e ps apart =
    let same : (word.0 == word.0) ≡ true = grind (arith, nat_tests) in
    different-last word e (without word.0 ps) (lookup-without word.0 word.0 ps ∙ rw same refl) (different-without word.0 ps apart)

pub different-touched : (word : WordId) (ps : List Pair) → AreDifferent ps → AreDifferent (touched word ps)
different-touched word ps apart = by_entry (lookup word.0 ps) where
  by_entry : (o : Option Entry) → AreDifferent (used word o ps)
  by_entry None = apart
  by_entry (Some e) = different-put word e ps apart

pub different-dropped_written : (words : List Interval) (ps : List Pair) → AreDifferent ps → AreDifferent (dropped_written words ps)
different-dropped_written words ps apart =
    different-map unmarked (filter (stays words) ps) (different-filter (stays words) ps apart)

pub different-dropped_signed : (s : Signature) (phase : ℕ) (words : List Interval) (ps : List Pair) → AreDifferent ps → AreDifferent (dropped_signed s phase words ps)
different-dropped_signed s phase words ps apart = different-filter (is_fresh s phase words) ps apart
