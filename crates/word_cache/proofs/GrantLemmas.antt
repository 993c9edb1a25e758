-- What is dropped at a grant, word by word.
use Rattle.std.proofs.Common.{◌≡◌, ℕ, ◌+◌, ◌<◌, ◌≤◌, ◌==◌, ◌||◌, ◌&&◌, Bool, true, false, not, cond, nat_le, nat_lt, List, [], ◌∷◌, take, length, get_or, Some, None, refl, arith, ap, sym, ◌∙◌, zero, suc}
use Rattle.std.specs.List.{filter}
use Rattle.std.specs.Prelude.{count_by}
use Rattle.std.proofs.lemmas.List.Sums.{sum_by-cons}
use Rattle.std.proofs.lemmas.Bool.{eqb-true}
use Rattle.std.proofs.lemmas.Bool.Decides.{nat_tests}
use Rattle.region_table.specs.declared.interval.Interval.{Interval}
use Rattle.region_table.specs.Words.{has, in_interval, AreApart}
use Rattle.write_signature.specs.declared.signature.Signature.{Signature}
use Rattle.write_signature.specs.Signature.{empty, in_phase, may_hold}
use Rattle.write_signature.proofs.SignatureLemmas.{holds-empty, holds-in_phase}
use Rattle.word_cache.specs.Cache.{Pair, AreDifferent, lookup, without, is_valid, is_fresh, dropped_signed}
use Rattle.word_cache.specs.declared.row.Place.{Place}
use Rattle.word_cache.specs.Row.{IsPlaceRow, IsCacheRow, AreBefore, is_copy}
use Rattle.word_cache.proofs.LookLemmas.{same_word}
use Rattle.word_cache.proofs.WeightLemmas.{without-absent}

-- a pair passes the one test and then the other
filter-filter : (f g h : Pair → Bool) → ((p : Pair) → h p ≡ (f p && g p)) → (ps : List Pair) → filter g (filter f ps) ≡ filter h ps
filter-filter f g h each [] = refl
filter-filter f g h each (p ∷ ps) = by_test (f p) (g p) (h p) refl (each p) (filter-filter f g h each ps) where
  by_test : (x y z : Bool) → g p ≡ y → z ≡ (x && y) → filter g (filter f ps) ≡ filter h ps → filter g (cond x (p ∷ filter f ps) (filter f ps)) ≡ cond z (p ∷ filter h ps) (filter h ps)
  by_test true true z a e rest = rw (a, e) (ap (λ (qs : List Pair). p ∷ qs) rest)
  by_test true false z a e rest = rw (a, e) rest
  by_test false y z a e rest = rw e rest

filter-all : (f : Pair → Bool) → ((p : Pair) → f p ≡ true) → (ps : List Pair) → filter f ps ≡ ps
filter-all f each [] = refl
filter-all f each (p ∷ ps) = rw (each p) (ap (λ (qs : List Pair). p ∷ qs) (filter-all f each ps))

split : (valid first second held : Bool) → not (valid && (first || second) && held) ≡ (not (valid && first && held) && not (valid && second && held))
split true true true true = refl
split true true true false = refl
split true true false true = refl
split true true false false = refl
split true false true true = refl
split true false true false = refl
split true false false true = refl
split true false false false = refl
split false first second held = refl

-- the words of one set, and then those of another
pub dropped-both : (s : Signature) (phase : ℕ) (a b all : List Interval) → ((w : ℕ) → has all w ≡ (has a w || has b w)) → (ps : List Pair) → dropped_signed s phase b (dropped_signed s phase a ps) ≡ dropped_signed s phase all ps
dropped-both s phase a b all union ps =
    filter-filter (is_fresh s phase a) (is_fresh s phase b) (is_fresh s phase all) (λ p. rw (union p.0.0) (split (is_valid p.1) (has a p.0.0) (has b p.0.0) (may_hold s p.0.0 phase))) ps

other-word : (valid held : Bool) → not (valid && false && held) ≡ true
other-word true held = refl
other-word false held = refl

pub dropped-none : (s : Signature) (phase : ℕ) (words : List Interval) → ((w : ℕ) → has words w ≡ false) → (ps : List Pair) → dropped_signed s phase words ps ≡ ps
dropped-none s phase words none ps = filter-all (is_fresh s phase words) (λ p. rw (none p.0.0) (other-word (is_valid p.1) (may_hold s p.0.0 phase))) ps

-- nothing is dropped where no pair is a copy, nor where the signature holds no word of the phase
abbrev pub is_copied : Pair → Bool
is_copied p = is_valid p.1

pub dropped-copyless : (s : Signature) (phase : ℕ) (words : List Interval) (ps : List Pair) → count_by is_copied ps ≡ 0 → dropped_signed s phase words ps ≡ ps
dropped-copyless s phase words [] none = refl
dropped-copyless s phase words (p ∷ ps) none = by_test (is_valid p.1) (sum_by-cons (λ (q : Pair). cond (is_copied q) 1 0) p ps) (dropped-copyless s phase words ps) where
  by_test : (t : Bool) → count_by is_copied (p ∷ ps) ≡ cond t 1 0 + count_by is_copied ps → (count_by is_copied ps ≡ 0 → dropped_signed s phase words ps ≡ ps)
      → cond (not (t && has words p.0.0 && may_hold s p.0.0 phase)) (p ∷ dropped_signed s phase words ps) (dropped_signed s phase words ps) ≡ p ∷ ps
  by_test true count rest = absurd (omega (arith, none, count))
  by_test false count rest = ap (λ (qs : List Pair). p ∷ qs) (rest (omega (arith, none, count)))

pub dropped-unheld : (s : Signature) (phase : ℕ) (words : List Interval) (ps : List Pair) → in_phase phase s ≡ empty phase → dropped_signed s phase words ps ≡ ps
dropped-unheld s phase words ps bare =
    filter-all (is_fresh s phase words) (λ p. rw (unheld p.0.0) (by_tests (is_valid p.1) (has words p.0.0))) ps where
      unheld : (w : ℕ) → may_hold s w phase ≡ false
      unheld w = sym (holds-in_phase phase s w) ∙ ap (λ (t : Signature). may_hold t w phase) bare ∙ holds-empty w phase phase

      by_tests : (valid guarded : Bool) → not (valid && guarded && false) ≡ true
      by_tests true true = refl
      by_tests true false = refl
      by_tests false guarded = refl

-- signatures whose parts pass the tests of their equality
pub same-signature : (a b : Signature) → not ((a.low == b.low) && ((a.high == b.high) && (a.phase.0 == b.phase.0))) ≡ false → a ≡ b
same-signature a b alike = by_tests (a.low == b.low) (a.high == b.high) (a.phase.0 == b.phase.0) refl refl refl alike where
  of_parts : ℕ → ℕ → ℕ → Signature
  of_parts low high phase = record { low = low; high = high; phase = record { 0 = phase } }

  made : (l h p m i q : ℕ) → l ≡ m → h ≡ i → p ≡ q → of_parts l h p ≡ of_parts m i q
  made l h p m i q e f g = rw (e, f, g) refl

  by_tests : (x y z : Bool) → (a.low == b.low) ≡ x → (a.high == b.high) ≡ y → (a.phase.0 == b.phase.0) ≡ z → not (x && (y && z)) ≡ false → a ≡ b
  by_tests true true true e f g is =
      made a.low a.high a.phase.0 b.low b.high b.phase.0 (eqb-true a.low b.low e) (eqb-true a.high b.high f) (eqb-true a.phase.0 b.phase.0 g)
  by_tests true true false e f g is = absurd (cc)
  by_tests true false z e f g is = absurd (cc)
  by_tests false y z e f g is = absurd (cc)

-- one word
abbrev pub only : ℕ → List Interval
only w = record { lo = w; hi = w + 1 } ∷ []

only-has : (w v : ℕ) → has (only w) v ≡ (v == w)
only-has w v = by_tests (nat_le w v) (nat_lt v (w + 1)) (v == w) refl refl refl where
  by_tests : (a b c : Bool) → nat_le w v ≡ a → nat_lt v (w + 1) ≡ b → (v == w) ≡ c → ((a && b) || false) ≡ c
  by_tests true true true e f g = refl
  by_tests true true false e f g = absurd (grind (arith, nat_tests))
  by_tests true false true e f g = absurd (grind (arith, nat_tests))
  by_tests true false false e f g = refl
  by_tests false b true e f g = absurd (grind (arith, nat_tests))
  by_tests false b false e f g = refl

only-fresh : (s : Signature) (phase w : ℕ) (p : Pair) → is_fresh s phase (only w) p ≡ not (is_valid p.1 && (p.0.0 == w) && may_hold s p.0.0 phase)
only-fresh s phase w p = ap (λ (t : Bool). not (is_valid p.1 && t && may_hold s p.0.0 phase)) (only-has w p.0.0)

-- a pair of another word is left
left-other : (s : Signature) (phase w : ℕ) (p : Pair) → (p.0.0 == w) ≡ false → is_fresh s phase (only w) p ≡ true
left-other s phase w p other =
    only-fresh s phase w p ∙ rw other (other-word (is_valid p.1) (may_hold s p.0.0 phase))

-- whether the word's own pair is left
left-own : (s : Signature) (phase w : ℕ) (p : Pair) → (p.0.0 == w) ≡ true → is_fresh s phase (only w) p ≡ not (may_hold s w phase && is_valid p.1)
left-own s phase w p own =
    only-fresh s phase w p ∙ rw own (rw (eqb-true p.0.0 w own) (turned (is_valid p.1) (may_hold s w phase))) where
      turned : (valid held : Bool) → not (valid && true && held) ≡ not (held && valid)
      turned true true = refl
      turned true false = refl
      turned false true = refl
      turned false false = refl

left-absent : (s : Signature) (phase w : ℕ) (ps : List Pair) → lookup w ps ≡ None → dropped_signed s phase (only w) ps ≡ ps
left-absent s phase w [] none = refl
left-absent s phase w (p ∷ ps) none = by_test (p.0.0 == w) refl none (left-absent s phase w ps) where
  by_test : (t : Bool) → (p.0.0 == w) ≡ t → cond t (Some p.1) (lookup w ps) ≡ None → (lookup w ps ≡ None → dropped_signed s phase (only w) ps ≡ ps) → dropped_signed s phase (only w) (p ∷ ps) ≡ p ∷ ps
  by_test true a none rest = absurd (cc)
  by_test false a none rest = rw (left-other s phase w p a) (ap (λ (qs : List Pair). p ∷ qs) (rest none))

-- a word's copy goes where the signature may hold the word, and else nothing does
pub dropped-word : (s : Signature) (phase w : ℕ) (ps : List Pair) → AreDifferent ps → dropped_signed s phase (only w) ps ≡ cond (may_hold s w phase && is_copy (lookup w ps)) (without w ps) ps
dropped-word s phase w [] apart = by_test (may_hold s w phase && false) [] where
  by_test : (t : Bool) (qs : List Pair) → qs ≡ cond t qs qs
  by_test true qs = refl
  by_test false qs = refl
dropped-word s phase w (p ∷ ps) apart = by_test (p.0.0 == w) refl (dropped-word s phase w ps apart.1) where
  by_stale : (stale : Bool) → (p.0.0 == w) ≡ true → (may_hold s w phase && is_valid p.1) ≡ stale → lookup w ps ≡ None → cond (not stale) (p ∷ dropped_signed s phase (only w) ps) (dropped_signed s phase (only w) ps) ≡ cond stale (without w ps) (p ∷ ps)
  by_stale true a stale none = left-absent s phase w ps none ∙ sym (without-absent w ps none)
  by_stale false a stale none = ap (λ (qs : List Pair). p ∷ qs) (left-absent s phase w ps none)

  moved : (t : Bool) → p ∷ cond t (without w ps) ps ≡ cond t (p ∷ without w ps) (p ∷ ps)
  moved true = refl
  moved false = refl

  by_test : (t : Bool) → (p.0.0 == w) ≡ t → dropped_signed s phase (only w) ps ≡ cond (may_hold s w phase && is_copy (lookup w ps)) (without w ps) ps
      → dropped_signed s phase (only w) (p ∷ ps) ≡ cond (may_hold s w phase && is_copy (cond t (Some p.1) (lookup w ps))) (cond (not t) (p ∷ without w ps) (without w ps)) (p ∷ ps)
  by_test true a rest =
      rw (left-own s phase w p a) (by_stale (may_hold s w phase && is_valid p.1) a refl (sym (same_word p.0.0 w ps a) ∙ apart.0))
  by_test false a rest =
      rw (left-other s phase w p a) (ap (λ (qs : List Pair). p ∷ qs) rest ∙ moved (may_hold s w phase && is_copy (lookup w ps)))

-- one word more of an interval, and one interval more
pub interval-more : (lo number v : ℕ) → lo ≤ number → has (record { lo = lo; hi = number + 1 } ∷ []) v ≡ (has (record { lo = lo; hi = number } ∷ []) v || has (only number) v)
interval-more lo number v low = by_tests (nat_le lo v) (nat_lt v number) (nat_le number v) (nat_lt v (number + 1)) refl refl refl refl where
  by_tests : (a b c d : Bool) → nat_le lo v ≡ a → nat_lt v number ≡ b → nat_le number v ≡ c → nat_lt v (number + 1) ≡ d → ((a && d) || false) ≡ (((a && b) || false) || ((c && d) || false))
  by_tests true true c true e f g h = refl
  by_tests true true c false e f g h = absurd (grind (arith, nat_tests))
  by_tests true false true d e f g h = by_last d where
    by_last : (x : Bool) → (x || false) ≡ (x || false)
    by_last x = refl
  by_tests true false false true e f g h = absurd (grind (arith, nat_tests))
  by_tests true false false false e f g h = refl
  by_tests false b true true e f g h = absurd (grind (arith, nat_tests))
  by_tests false b true false e f g h = refl
  by_tests false b false d e f g h = refl

pub interval-empty : (lo v : ℕ) → has (record { lo = lo; hi = lo } ∷ []) v ≡ false
interval-empty lo v = by_tests (nat_le lo v) (nat_lt v lo) refl refl where
  by_tests : (a b : Bool) → nat_le lo v ≡ a → nat_lt v lo ≡ b → ((a && b) || false) ≡ false
  by_tests true true e f = absurd (grind (arith, nat_tests))
  by_tests true false e f = refl
  by_tests false b e f = refl

or-assoc : (a b c : Bool) → ((a || b) || c) ≡ (a || (b || c))
or-assoc true b c = refl
or-assoc false b c = refl

pub has-more : (words : List Interval) (k : ℕ) (d : Interval) (v : ℕ) → k < length words → has (take (k + 1) words) v ≡ (has (take k words) v || has (get_or words k d ∷ []) v)
has-more [] k d v within = absurd (omega arith)
has-more (i ∷ is) zero d v within = refl
has-more (i ∷ is) (suc k) d v within =
    let step : suc k + 1 ≡ suc (k + 1) = omega arith in
    rw step (ap (λ (t : Bool). in_interval i v || t) (has-more is k d v (omega (arith, within))) ∙ sym (or-assoc (in_interval i v) (has (take k is) v) (has (get_or is k d ∷ []) v)))

pub ordered : (from : ℕ) (words : List Interval) → AreApart from words → (k : ℕ) (d : Interval) → k < length words → (get_or words k d).lo ≤ (get_or words k d).hi
ordered from [] apart k d within = absurd (omega arith)
ordered from (i ∷ is) apart zero d within = omega (arith, apart.1)
ordered from (i ∷ is) apart (suc k) d within = ordered (i.hi + 1) is apart.2 k d (omega (arith, within))

-- every row has a clock that stands behind its times
before-cons : (q : Place) (qs : List Place) (n : ℕ) → AreBefore n qs → AreBefore (q.used + 1 + n) (q ∷ qs)
before-cons q qs n before zero d below = omega arith
before-cons q qs n before (suc i) d below = omega (arith, before i d (omega (arith, below)))

some-clock : (row : List Place) → (clock : ℕ) × AreBefore clock row
some-clock [] = (0, λ i d below. absurd (omega (arith, below)))
some-clock (q ∷ qs) = let rest = some-clock qs in (q.used + 1 + rest.0, before-cons q qs rest.0 rest.1)

pub row-stays : (sets ways : ℕ) (old new : List Place) → IsPlaceRow sets ways old → ((clock : ℕ) → IsCacheRow sets ways clock old → IsCacheRow sets ways clock new) → IsPlaceRow sets ways new
row-stays sets ways old new good keeps =
    let clock = some-clock old in
    (keeps clock.0 (record { row_is = good; before = clock.1 })).row_is
