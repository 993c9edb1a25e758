-- What a word has after a change of the list.
use Rattle.std.proofs.Common.{◌≡◌, ℕ, ◌%◌, ◌==◌, Bool, true, false, ◌||◌, ◌&&◌, not, cond, List, [], ◌∷◌, ◌++◌, map, Option, Some, None, refl, arith, ap, sym, ◌∙◌, zero, suc}
use Rattle.std.specs.Prelude.{slice_get}
use Rattle.std.specs.List.{filter}
use Rattle.std.specs.Option.{option_map}
use Rattle.std.proofs.lemmas.Bool.{eqb-true}
use Rattle.std.proofs.lemmas.Bool.Decides.{nat_tests}
use Rattle.dn_base.specs.declared.ids.WordId.{WordId}
use Rattle.word_cache.specs.declared.row.Entry.{Entry}
use Rattle.region_table.specs.declared.interval.Interval.{Interval}
use Rattle.region_table.specs.Words.{has}
use Rattle.write_signature.specs.declared.signature.Signature.{Signature}
use Rattle.write_signature.specs.Signature.{may_hold}
use Rattle.word_cache.specs.Cache.{Pair, AreDifferent, in_set, lookup, without, put, changed, used, touched, stays, is_kept, is_valid, unmarked, is_fresh, dropped_written, dropped_signed, entry_after_phase, entry_after_grant}

pub lookup-without : (w v : ℕ) (ps : List Pair) → lookup v (without w ps) ≡ cond (w == v) None (lookup v ps)
lookup-without w v [] = grind (arith, nat_tests)
lookup-without w v (p ∷ ps) = by_test (p.0.0 == w) (p.0.0 == v) (w == v) refl refl refl (lookup-without w v ps) where
  by_test : (t u x : Bool) → (p.0.0 == w) ≡ t → (p.0.0 == v) ≡ u → (w == v) ≡ x → lookup v (without w ps) ≡ cond (w == v) None (lookup v ps) → lookup v (without w (p ∷ ps)) ≡ cond (w == v) None (lookup v (p ∷ ps))
  by_test true true true a b c rest = simp (a, b, c) (rest ∙ simp c refl)
  by_test true true false a b c rest = absurd (grind (arith, nat_tests))
  by_test true false true a b c rest = absurd (grind (arith, nat_tests))
  by_test true false false a b c rest = simp (a, b, c) (rest ∙ simp c refl)
  by_test false true true a b c rest = absurd (grind (arith, nat_tests))
  by_test false true false a b c rest = simp (a, b, c) refl
  by_test false false true a b c rest = simp (a, b, c) (rest ∙ simp c refl)
  by_test false false false a b c rest = simp (a, b, c) (rest ∙ simp c refl)

pub lookup-last : (word : WordId) (e : Entry) (v : ℕ) (ps : List Pair) → lookup word.0 ps ≡ None → lookup v (ps ++ (word, e) ∷ []) ≡ cond (word.0 == v) (Some e) (lookup v ps)
lookup-last word e v [] absent = refl
lookup-last word e v (p ∷ ps) absent = by_test (p.0.0 == word.0) (p.0.0 == v) (word.0 == v) refl refl refl (lookup-last word e v ps) where
  by_test : (t u x : Bool) → (p.0.0 == word.0) ≡ t → (p.0.0 == v) ≡ u → (word.0 == v) ≡ x → (lookup word.0 ps ≡ None → lookup v (ps ++ (word, e) ∷ []) ≡ cond (word.0 == v) (Some e) (lookup v ps)) → lookup v ((p ∷ ps) ++ (word, e) ∷ []) ≡ cond (word.0 == v) (Some e) (lookup v (p ∷ ps))
  by_test true u x a b c rest = let never = rw a at absent in absurd (cc)
  by_test false true true a b c rest = absurd (grind (arith, nat_tests))
  by_test false true false a b c rest = simp (b, c) refl
  by_test false false x a b c rest =
      let gone : lookup word.0 ps ≡ None = rw a at absent in
      rw b (rest gone)

pub lookup-put : (word : WordId) (e : Entry) (v : ℕ) (ps : List Pair) → lookup v (put word e ps) ≡ cond (word.0 == v) (Some e) (lookup v ps)
lookup-put word e v ps =
    lookup-last word e v (without word.0 ps) (lookup-without word.0 word.0 ps ∙ grind (arith, nat_tests)) ∙ by_test (word.0 == v) refl where
      by_test : (t : Bool) → (word.0 == v) ≡ t → cond t (Some e) (lookup v (without word.0 ps)) ≡ cond t (Some e) (lookup v ps)
      by_test true a = refl
      by_test false a = lookup-without word.0 v ps ∙ rw a refl

pub lookup-changed : (w v : ℕ) (e : Entry) (ps : List Pair) → lookup v (changed w e ps) ≡ cond (w == v) (option_map (λ (_ : Entry). e) (lookup w ps)) (lookup v ps)
lookup-changed w v e [] = grind (arith, nat_tests)
lookup-changed w v e (p ∷ ps) = by_test (p.0.0 == w) (p.0.0 == v) (w == v) refl refl refl (lookup-changed w v e ps) where
  by_test : (t u x : Bool) → (p.0.0 == w) ≡ t → (p.0.0 == v) ≡ u → (w == v) ≡ x → lookup v (changed w e ps) ≡ cond (w == v) (option_map (λ (_ : Entry). e) (lookup w ps)) (lookup v ps) → lookup v (changed w e (p ∷ ps)) ≡ cond (w == v) (option_map (λ (_ : Entry). e) (lookup w (p ∷ ps))) (lookup v (p ∷ ps))
  by_test true true true a b c rest = simp (a, b, c) refl
  by_test true true false a b c rest = absurd (grind (arith, nat_tests))
  by_test true false true a b c rest = absurd (grind (arith, nat_tests))
  by_test true false false a b c rest = simp (a, b, c) (rest ∙ simp c refl)
  by_test false true true a b c rest = absurd (grind (arith, nat_tests))
  by_test false true false a b c rest = simp (a, b, c) refl
  by_test false false true a b c rest = simp (a, b, c) (rest ∙ simp c refl)
  by_test false false false a b c rest = simp (a, b, c) (rest ∙ simp c refl)

-- a word's look-up is its own
pub same_word : (w v : ℕ) (ps : List Pair) → (w == v) ≡ true → lookup w ps ≡ lookup v ps
same_word w v ps e = ap (λ (x : ℕ). lookup x ps) (eqb-true w v e)

pub lookup-touched : (word : WordId) (v : ℕ) (ps : List Pair) → lookup v (touched word ps) ≡ lookup v ps
lookup-touched word v ps = by_entry (lookup word.0 ps) refl where
  by_entry : (o : Option Entry) → lookup word.0 ps ≡ o → lookup v (used word o ps) ≡ lookup v ps
  by_entry None is = refl
  by_entry (Some e) is = lookup-put word e v ps ∙ by_test (word.0 == v) refl where
    by_test : (t : Bool) → (word.0 == v) ≡ t → cond t (Some e) (lookup v ps) ≡ lookup v ps
    by_test true a = sym is ∙ same_word word.0 v ps a
    by_test false a = refl

-- what is left of a word's entry where the pairs that pass stay
abbrev pub passing : (Pair → Bool) → ℕ → Option Entry → Option Entry
passing f w None = None
passing f w (Some e) = cond (f (record { 0 = w }, e)) (Some e) None

pub lookup-filter : (f : Pair → Bool) (v : ℕ) (ps : List Pair) → AreDifferent ps → lookup v (filter f ps) ≡ passing f v (lookup v ps)
lookup-filter f v [] apart = refl
lookup-filter f v (p ∷ ps) apart = by_tests (p.0.0 == v) (f p) refl refl (lookup-filter f v ps apart.1) where
  same_test : (p.0.0 == v) ≡ true → f (record { 0 = v }, p.1) ≡ f p
  same_test e = ap (λ (x : ℕ). f (record { 0 = x }, p.1)) (sym (eqb-true p.0.0 v e))

  by_tests : (t u : Bool) → (p.0.0 == v) ≡ t → f p ≡ u → lookup v (filter f ps) ≡ passing f v (lookup v ps) → lookup v (cond u (p ∷ filter f ps) (filter f ps)) ≡ passing f v (cond t (Some p.1) (lookup v ps))
  by_tests true true a b rest = let here = same_test a ∙ b in rw (a, here) refl
  by_tests true false a b rest =
      let here = same_test a ∙ b in
      let gone : lookup v ps ≡ None = sym (same_word p.0.0 v ps a) ∙ apart.0 in
      rw here (rest ∙ ap (passing f v) gone)
  by_tests false true a b rest = rw a rest
  by_tests false false a b rest = rest

-- a change of every entry
pub lookup-map : (g : Entry → Entry) (v : ℕ) (ps : List Pair) → lookup v (map (λ (p : Pair). (p.0, g p.1)) ps) ≡ option_map g (lookup v ps)
lookup-map g v [] = refl
lookup-map g v (p ∷ ps) = by_test (p.0.0 == v) (lookup-map g v ps) where
  by_test : (t : Bool) → lookup v (map (λ (p : Pair). (p.0, g p.1)) ps) ≡ option_map g (lookup v ps) → cond t (Some (g p.1)) (lookup v (map (λ (p : Pair). (p.0, g p.1)) ps)) ≡ option_map g (cond t (Some p.1) (lookup v ps))
  by_test true rest = refl
  by_test false rest = rest

pub lookup-dropped_written : (words : List Interval) (v : ℕ) (ps : List Pair) → AreDifferent ps → lookup v (dropped_written words ps) ≡ entry_after_phase words v (lookup v ps)
lookup-dropped_written words v ps apart =
    lookup-map unmarked v (filter (stays words) ps) ∙ ap (option_map unmarked) (lookup-filter (stays words) v ps apart) ∙ by_entry (lookup v ps) where
      by_test : (t : Bool) (e : Entry) → option_map unmarked (cond t (Some e) None) ≡ cond t (Some (unmarked e)) None
      by_test true e = refl
      by_test false e = refl

      by_entry : (o : Option Entry) → option_map unmarked (passing (stays words) v o) ≡ entry_after_phase words v o
      by_entry None = refl
      by_entry (Some e) = by_test (is_kept e || not (has words v)) e

pub lookup-dropped_signed : (s : Signature) (phase : ℕ) (words : List Interval) (v : ℕ) (ps : List Pair) → AreDifferent ps → lookup v (dropped_signed s phase words ps) ≡ entry_after_grant s phase words v (lookup v ps)
lookup-dropped_signed s phase words v ps apart = lookup-filter (is_fresh s phase words) v ps apart ∙ by_entry (lookup v ps) where
  by_test : (t : Bool) (e : Entry) → cond (not t) (Some e) None ≡ cond t None (Some e)
  by_test true e = refl
  by_test false e = refl

  by_entry : (o : Option Entry) → passing (is_fresh s phase words) v o ≡ entry_after_grant s phase words v o
  by_entry None = refl
  by_entry (Some e) = by_test (is_valid e && has words v && may_hold s v phase) e

-- the pairs of one set have the words of that set
pub lookup-in_set : (sets set v : ℕ) (ps : List Pair) → lookup v (filter (in_set sets set) ps) ≡ cond (v % sets == set) (lookup v ps) None
lookup-in_set sets set v [] = by_test (v % sets == set) None where
  by_test : (t : Bool) (o : Option Entry) → o ≡ cond t o o
  by_test true o = refl
  by_test false o = refl
lookup-in_set sets set v (p ∷ ps) = by_tests (p.0.0 == v) (in_set sets set p) refl refl (lookup-in_set sets set v ps) where
  by_tests : (t u : Bool) → (p.0.0 == v) ≡ t → in_set sets set p ≡ u → lookup v (filter (in_set sets set) ps) ≡ cond (v % sets == set) (lookup v ps) None → lookup v (cond u (p ∷ filter (in_set sets set) ps) (filter (in_set sets set) ps)) ≡ cond (v % sets == set) (cond t (Some p.1) (lookup v ps)) None
  by_tests true true a b rest =
      let here : (v % sets == set) ≡ true = ap (λ (x : ℕ). x % sets == set) (sym (eqb-true p.0.0 v a)) ∙ b in
      rw (a, here) refl
  by_tests true false a b rest =
      let here : (v % sets == set) ≡ false = ap (λ (x : ℕ). x % sets == set) (sym (eqb-true p.0.0 v a)) ∙ b in
      rw here (rest ∙ rw here refl)
  by_tests false true a b rest = rw a rest
  by_tests false false a b rest = rest

-- each pair of a cache is what its word's look-up gives, and what a look-up gives is a pair
pub lookup-pair : (ps : List Pair) (i : ℕ) (p : Pair) → AreDifferent ps → slice_get ps i ≡ Some p → lookup p.0.0 ps ≡ Some p.1
lookup-pair [] i p apart is = absurd (cc)
lookup-pair (q ∷ qs) zero p apart is =
    let same : q ≡ p = cc in
    let here : (q.0.0 == p.0.0) ≡ true = grind (arith, nat_tests) in
    rw here (ap (λ (x : Pair). let o : Option Entry = Some x.1 in o) same)
lookup-pair (q ∷ qs) (suc i) p apart is = by_test (q.0.0 == p.0.0) refl (lookup-pair qs i p apart.1 is) where
  by_test : (t : Bool) → (q.0.0 == p.0.0) ≡ t → lookup p.0.0 qs ≡ Some p.1 → cond t (Some q.1) (lookup p.0.0 qs) ≡ Some p.1
  by_test true a rest =
      let none : lookup p.0.0 qs ≡ None = sym (same_word q.0.0 p.0.0 qs a) ∙ apart.0 in
      absurd (cc)
  by_test false a rest = rest

pub pair-of : (w : ℕ) (e : Entry) (ps : List Pair) → lookup w ps ≡ Some e → (i : ℕ) × (slice_get ps i ≡ Some (record { 0 = w }, e))
pair-of w e [] is = absurd (cc)
pair-of w e (p ∷ ps) is = by_test (p.0.0 == w) refl is (pair-of w e ps) where
  by_test : (t : Bool) → (p.0.0 == w) ≡ t → cond t (Some p.1) (lookup w ps) ≡ Some e → (lookup w ps ≡ Some e → (i : ℕ) × (slice_get ps i ≡ Some (record { 0 = w }, e))) → (i : ℕ) × (slice_get (p ∷ ps) i ≡ Some (record { 0 = w }, e))
  by_test true a is rest =
      let same : p.0.0 ≡ w = eqb-true p.0.0 w a in
      let entry : p.1 ≡ e = cc in
      (0, ap (λ (x : ℕ). let o : Option Pair = Some (record { 0 = x }, p.1) in o) same ∙ ap (λ (x : Entry). let o : Option Pair = Some (record { 0 = w }, x) in o) entry)
  by_test false a is rest = let found = rest is in (suc found.0, found.1)
