-- How many pairs a set has, and how many entries are pending, after a change of the list.
use Rattle.std.proofs.Common.{◌≡◌, ℕ, ◌+◌, ◌%◌, ◌<◌, ◌≤◌, ◌==◌, Bool, true, false, not, cond, List, [], ◌∷◌, map, Option, Some, None, refl, arith, ap, sym, ◌∙◌, zero, suc}
use Rattle.std.specs.Prelude.{count_by, slice_get}
use Rattle.std.specs.List.{filter}
use Rattle.std.specs.Option.{option_map}
use Rattle.std.proofs.lemmas.Bool.{eqb-true}
use Rattle.std.proofs.lemmas.List.Sums.{sum_by-cons, sum_by_push}
use Rattle.dn_base.specs.declared.ids.WordId.{WordId}
use Rattle.region_table.specs.declared.interval.Interval.{Interval}
use Rattle.write_signature.specs.declared.signature.Signature.{Signature}
use Rattle.word_cache.specs.declared.row.Entry.{Entry}
use Rattle.word_cache.specs.declared.row.Entry.TheVariants.{Valid, Registered, Leaving}
use Rattle.word_cache.specs.Cache.{Pair, AreDifferent, is_of, lookup, without, put, changed, used, touched, shares_set, set_count, is_pending, pending_count, pending_bit, stays, unmarked, is_fresh, dropped_written, dropped_signed}
use Rattle.word_cache.proofs.LookLemmas.{same_word, lookup-pair}

-- what passes counts as 1
abbrev pub bit : Bool → ℕ
bit b = cond b 1 0

-- one more pair
count-cons : (f : Pair → Bool) (p : Pair) (ps : List Pair) → count_by f (p ∷ ps) ≡ cond (f p) 1 0 + count_by f ps
count-cons f p ps = sum_by-cons (λ (x : Pair). cond (f x) 1 0) p ps

-- a word that no pair is of
pub without-absent : (w : ℕ) (ps : List Pair) → lookup w ps ≡ None → without w ps ≡ ps
without-absent w [] none = refl
without-absent w (p ∷ ps) none = by_test (p.0.0 == w) none (without-absent w ps) where
  by_test : (t : Bool) → cond t (Some p.1) (lookup w ps) ≡ None → (lookup w ps ≡ None → without w ps ≡ ps) → cond (not t) (p ∷ without w ps) (without w ps) ≡ p ∷ ps
  by_test true none rest = absurd (cc)
  by_test false none rest = ap (λ (qs : List Pair). p ∷ qs) (rest none)

pub changed-absent : (w : ℕ) (e : Entry) (ps : List Pair) → lookup w ps ≡ None → changed w e ps ≡ ps
changed-absent w e [] none = refl
changed-absent w e (p ∷ ps) none = by_test (p.0.0 == w) none (changed-absent w e ps) where
  by_test : (t : Bool) → cond t (Some p.1) (lookup w ps) ≡ None → (lookup w ps ≡ None → changed w e ps ≡ ps) → cond t (p.0, e) p ∷ changed w e ps ≡ p ∷ ps
  by_test true none rest = absurd (cc)
  by_test false none rest = ap (λ (qs : List Pair). p ∷ qs) (rest none)

-- whether a word's entry passes, as a number
abbrev pub weight_at : (Pair → Bool) → ℕ → Option Entry → ℕ
weight_at f w None = 0
weight_at f w (Some e) = cond (f (record { 0 = w }, e)) 1 0

pub count-without : (f : Pair → Bool) (w : ℕ) (ps : List Pair) → AreDifferent ps → count_by f (without w ps) + weight_at f w (lookup w ps) ≡ count_by f ps
count-without f w [] apart = refl
count-without f w (p ∷ ps) apart = by_test (p.0.0 == w) refl (count-without f w ps apart.1) where
  by_test : (t : Bool) → (p.0.0 == w) ≡ t → count_by f (without w ps) + weight_at f w (lookup w ps) ≡ count_by f ps → count_by f (cond (not t) (p ∷ without w ps) (without w ps)) + weight_at f w (cond t (Some p.1) (lookup w ps)) ≡ count_by f (p ∷ ps)
  by_test true a rest =
      let none : lookup w ps ≡ None = sym (same_word p.0.0 w ps a) ∙ apart.0 in
      let whole = ap (count_by f) (without-absent w ps none) in
      let weighs : bit (f (record { 0 = w }, p.1)) ≡ bit (f p) = ap (λ (x : ℕ). bit (f (record { 0 = x }, p.1))) (sym (eqb-true p.0.0 w a)) in
      omega (arith, whole, weighs, count-cons f p ps)
  by_test false a rest = omega (arith, rest, count-cons f p ps, count-cons f p (without w ps))

pub count-put : (f : Pair → Bool) (word : WordId) (e : Entry) (ps : List Pair) → AreDifferent ps → count_by f (put word e ps) + weight_at f word.0 (lookup word.0 ps) ≡ count_by f ps + weight_at f word.0 (Some e)
count-put f word e ps apart =
    omega (arith, count-without f word.0 ps apart, sum_by_push (λ (x : Pair). cond (f x) 1 0) (without word.0 ps) (word, e))

pub count-changed : (f : Pair → Bool) (w : ℕ) (e : Entry) (ps : List Pair) → AreDifferent ps → count_by f (changed w e ps) + weight_at f w (lookup w ps) ≡ count_by f ps + weight_at f w (option_map (λ (_ : Entry). e) (lookup w ps))
count-changed f w e [] apart = refl
count-changed f w e (p ∷ ps) apart = by_test (p.0.0 == w) refl (count-changed f w e ps apart.1) where
  by_test : (t : Bool) → (p.0.0 == w) ≡ t → count_by f (changed w e ps) + weight_at f w (lookup w ps) ≡ count_by f ps + weight_at f w (option_map (λ (_ : Entry). e) (lookup w ps))
      → count_by f (cond t (p.0, e) p ∷ changed w e ps) + weight_at f w (cond t (Some p.1) (lookup w ps)) ≡ count_by f (p ∷ ps) + weight_at f w (option_map (λ (_ : Entry). e) (cond t (Some p.1) (lookup w ps)))
  by_test true a rest =
      let none : lookup w ps ≡ None = sym (same_word p.0.0 w ps a) ∙ apart.0 in
      let whole = ap (count_by f) (changed-absent w e ps none) in
      let old : bit (f (record { 0 = w }, p.1)) ≡ bit (f p) = ap (λ (x : ℕ). bit (f (record { 0 = x }, p.1))) (sym (eqb-true p.0.0 w a)) in
      let new : bit (f (record { 0 = w }, e)) ≡ bit (f (p.0, e)) = ap (λ (x : ℕ). bit (f (record { 0 = x }, e))) (sym (eqb-true p.0.0 w a)) in
      omega (arith, whole, old, new, count-cons f p ps, count-cons f (p.0, e) (changed w e ps))
  by_test false a rest = omega (arith, rest, count-cons f p ps, count-cons f p (changed w e ps))

pub count-touched : (f : Pair → Bool) (word : WordId) (ps : List Pair) → AreDifferent ps → count_by f (touched word ps) ≡ count_by f ps
count-touched f word ps apart = by_entry (lookup word.0 ps) refl where
  by_entry : (o : Option Entry) → lookup word.0 ps ≡ o → count_by f (used word o ps) ≡ count_by f ps
  by_entry None is = refl
  by_entry (Some e) is =
      let weighs = ap (weight_at f word.0) is in
      omega (arith, weighs, count-put f word e ps apart)

one : (t : Bool) → cond t 1 0 ≤ 1
one true = omega arith
one false = omega arith

pub count-fewer : (f g : Pair → Bool) (ps : List Pair) → count_by f (filter g ps) ≤ count_by f ps
count-fewer f g [] = omega arith
count-fewer f g (p ∷ ps) = by_test (g p) (count-fewer f g ps) where
  by_test : (t : Bool) → count_by f (filter g ps) ≤ count_by f ps → count_by f (cond t (p ∷ filter g ps) (filter g ps)) ≤ count_by f (p ∷ ps)
  by_test true rest = omega (arith, rest, count-cons f p ps, count-cons f p (filter g ps))
  by_test false rest = omega (arith, rest, count-cons f p ps)

-- where every pair that counts stays
pub count-stays : (f g : Pair → Bool) → ((p : Pair) → f p ≡ true → g p ≡ true) → (ps : List Pair) → count_by f (filter g ps) ≡ count_by f ps
count-stays f g each [] = refl
count-stays f g each (p ∷ ps) = by_tests (f p) (g p) refl refl (count-stays f g each ps) where
  by_tests : (t u : Bool) → f p ≡ t → g p ≡ u → count_by f (filter g ps) ≡ count_by f ps → count_by f (cond u (p ∷ filter g ps) (filter g ps)) ≡ count_by f (p ∷ ps)
  by_tests t true a b rest = omega (arith, rest, count-cons f p ps, count-cons f p (filter g ps))
  by_tests true false a b rest = let never = each p a in absurd (cc)
  by_tests false false a b rest =
      let weighs : bit (f p) ≡ 0 = rw a refl in
      omega (arith, rest, weighs, count-cons f p ps)

-- where a pair counts after a change as before it
pub count-map : (f : Pair → Bool) (h : Pair → Pair) → ((p : Pair) → f (h p) ≡ f p) → (ps : List Pair) → count_by f (map h ps) ≡ count_by f ps
count-map f h each [] = refl
count-map f h each (p ∷ ps) =
    let weighs = ap (λ (t : Bool). let n : ℕ = cond t 1 0 in n) (each p) in
    omega (arith, weighs, count-map f h each ps, count-cons f p ps, count-cons f (h p) (map h ps))

-- one of the pairs that count
pub record Counted (f : Pair → Bool) (ps : List Pair) : Type 0 where
  pub place : ℕ
  pub pair : Pair
  pub there : slice_get ps place ≡ Some pair
  pub counts : f pair ≡ true

pub count-some : (f : Pair → Bool) (ps : List Pair) → 0 < count_by f ps → Counted f ps
count-some f [] some = absurd (omega (arith, some))
count-some f (p ∷ ps) some = by_test (f p) refl (count-some f ps) where
  by_test : (t : Bool) → f p ≡ t → (0 < count_by f ps → Counted f ps) → Counted f (p ∷ ps)
  by_test true a rest = record { place = 0; pair = p; there = refl; counts = a }
  by_test false a rest =
      let weighs : bit (f p) ≡ 0 = rw a refl in
      let found = rest (omega (arith, some, weighs, count-cons f p ps)) in
      record { place = suc found.place; pair = found.pair; there = found.there; counts = found.counts }

-- how many pairs a set has
pub set_count-put_old : (sets v : ℕ) (word : WordId) (e old : Entry) (ps : List Pair) → AreDifferent ps → lookup word.0 ps ≡ Some old → set_count sets v (put word e ps) ≡ set_count sets v ps
set_count-put_old sets v word e old ps apart is =
    let weighs = ap (weight_at (shares_set sets v) word.0) is in
    omega (arith, weighs, count-put (shares_set sets v) word e ps apart)

pub set_count-put_new : (sets v : ℕ) (word : WordId) (e : Entry) (ps : List Pair) → AreDifferent ps → lookup word.0 ps ≡ None → set_count sets v (put word e ps) ≡ set_count sets v ps + cond (word.0 % sets == v % sets) 1 0
set_count-put_new sets v word e ps apart is =
    let weighs = ap (weight_at (shares_set sets v) word.0) is in
    omega (arith, weighs, count-put (shares_set sets v) word e ps apart)

pub set_count-without : (sets v w : ℕ) (old : Entry) (ps : List Pair) → AreDifferent ps → lookup w ps ≡ Some old → set_count sets v (without w ps) + cond (w % sets == v % sets) 1 0 ≡ set_count sets v ps
set_count-without sets v w old ps apart is =
    let weighs = ap (weight_at (shares_set sets v) w) is in
    omega (arith, weighs, count-without (shares_set sets v) w ps apart)

pub set_count-fewer : (sets v w : ℕ) (ps : List Pair) → set_count sets v (without w ps) ≤ set_count sets v ps
set_count-fewer sets v w ps = count-fewer (shares_set sets v) (λ (p : Pair). not (is_of w p)) ps

pub set_count-changed : (sets v w : ℕ) (e : Entry) (ps : List Pair) → set_count sets v (changed w e ps) ≡ set_count sets v ps
set_count-changed sets v w e ps =
    count-map (shares_set sets v) (λ (p : Pair). cond (is_of w p) (p.0, e) p) (λ p. by_test p (is_of w p)) ps where
      by_test : (p : Pair) (t : Bool) → shares_set sets v (cond t (p.0, e) p) ≡ shares_set sets v p
      by_test p true = refl
      by_test p false = refl

pub set_count-touched : (sets v : ℕ) (word : WordId) (ps : List Pair) → AreDifferent ps → set_count sets v (touched word ps) ≡ set_count sets v ps
set_count-touched sets v word ps apart = count-touched (shares_set sets v) word ps apart

pub set_count-dropped_written : (sets v : ℕ) (words : List Interval) (ps : List Pair) → set_count sets v (dropped_written words ps) ≤ set_count sets v ps
set_count-dropped_written sets v words ps =
    omega (arith, count-map (shares_set sets v) (λ (p : Pair). (p.0, unmarked p.1)) (λ p. refl) (filter (stays words) ps), count-fewer (shares_set sets v) (stays words) ps)

pub set_count-dropped_signed : (sets v : ℕ) (s : Signature) (phase : ℕ) (words : List Interval) (ps : List Pair) → set_count sets v (dropped_signed s phase words ps) ≤ set_count sets v ps
set_count-dropped_signed sets v s phase words ps = count-fewer (shares_set sets v) (is_fresh s phase words) ps

-- how many entries are pending
abbrev pub has_pending : Pair → Bool
has_pending p = is_pending p.1

bit_is : (w : ℕ) (o : Option Entry) → weight_at has_pending w o ≡ pending_bit o
bit_is w None = refl
bit_is w (Some e) = refl

pub pending_count-put : (word : WordId) (e : Entry) (ps : List Pair) → AreDifferent ps → pending_count (put word e ps) + pending_bit (lookup word.0 ps) ≡ pending_count ps + pending_bit (Some e)
pending_count-put word e ps apart =
    omega (arith, bit_is word.0 (lookup word.0 ps), count-put has_pending word e ps apart)

pub pending_count-without : (w : ℕ) (ps : List Pair) → AreDifferent ps → pending_count (without w ps) + pending_bit (lookup w ps) ≡ pending_count ps
pending_count-without w ps apart = omega (arith, bit_is w (lookup w ps), count-without has_pending w ps apart)

pub pending_count-changed : (w : ℕ) (e : Entry) (ps : List Pair) → AreDifferent ps → pending_count (changed w e ps) + pending_bit (lookup w ps) ≡ pending_count ps + pending_bit (option_map (λ (_ : Entry). e) (lookup w ps))
pending_count-changed w e ps apart =
    omega (arith, bit_is w (lookup w ps), bit_is w (option_map (λ (_ : Entry). e) (lookup w ps)), count-changed has_pending w e ps apart)

pub pending_count-touched : (word : WordId) (ps : List Pair) → AreDifferent ps → pending_count (touched word ps) ≡ pending_count ps
pending_count-touched word ps apart = count-touched has_pending word ps apart

pub pending_count-dropped_written : (words : List Interval) (ps : List Pair) → pending_count (dropped_written words ps) ≡ pending_count ps
pending_count-dropped_written words ps =
    count-map has_pending (λ (p : Pair). (p.0, unmarked p.1)) (λ p. still p.1) (filter (stays words) ps) ∙ count-stays has_pending (stays words) (λ p is. left p.0 p.1 is) ps where
      still : (e : Entry) → is_pending (unmarked e) ≡ is_pending e
      still (Valid value marked) = refl
      still (Registered value pending) = refl
      still (Leaving value) = refl

      left : (word : WordId) (e : Entry) → is_pending e ≡ true → stays words (word, e) ≡ true
      left word (Valid value marked) is = absurd (cc)
      left word (Registered value pending) is = refl
      left word (Leaving value) is = refl

pub pending_count-dropped_signed : (s : Signature) (phase : ℕ) (words : List Interval) (ps : List Pair) → pending_count (dropped_signed s phase words ps) ≡ pending_count ps
pending_count-dropped_signed s phase words ps = count-stays has_pending (is_fresh s phase words) (λ p is. left p.0 p.1 is) ps where
  left : (word : WordId) (e : Entry) → is_pending e ≡ true → is_fresh s phase words (word, e) ≡ true
  left word (Valid value marked) is = absurd (cc)
  left word (Registered value pending) is = refl
  left word (Leaving value) is = refl

-- a pending entry counts, and where one counts a word has it
pub pending-most : (w : ℕ) (ps : List Pair) → pending_bit (lookup w ps) ≤ pending_count ps
pending-most w [] = omega arith
pending-most w (p ∷ ps) = by_test (p.0.0 == w) (pending-most w ps) where
  by_test : (t : Bool) → pending_bit (lookup w ps) ≤ pending_count ps → pending_bit (cond t (Some p.1) (lookup w ps)) ≤ pending_count (p ∷ ps)
  by_test true rest = omega (arith, count-cons has_pending p ps)
  by_test false rest = omega (arith, rest, count-cons has_pending p ps)

pub pending-some : (ps : List Pair) → AreDifferent ps → 0 < pending_count ps → (w : ℕ) × (pending_bit (lookup w ps) ≡ 1)
pending-some ps apart some =
    let found = count-some has_pending ps some in
    (found.pair.0.0, ap pending_bit (lookup-pair ps found.place found.pair apart found.there) ∙ rw found.counts refl)

pub pending-none : (ps : List Pair) → AreDifferent ps → ((w : ℕ) → pending_bit (lookup w ps) ≡ 0) → pending_count ps ≡ 0
pending-none ps apart none = by_count (pending_count ps) refl where
  by_count : (n : ℕ) → pending_count ps ≡ n → pending_count ps ≡ 0
  by_count zero is = is
  by_count (suc n) is =
      let found = pending-some ps apart (omega (arith, is)) in
      absurd (omega (arith, found.1, none found.0))
