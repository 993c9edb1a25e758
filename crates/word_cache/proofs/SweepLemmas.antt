-- What a change of every place comes to.
use Rattle.std.proofs.Common.{◌≡◌, ℕ, ◌+◌, ◌/◌, ◌<◌, Bool, true, false, cond, List, [], ◌∷◌, ◌++◌, map, length, get_or, set, take, drop, Option, Some, None, refl, arith, ap, ◌∙◌, sym, zero, suc, add-one}
use Rattle.std.proofs.lemmas.List.{length-map, set-get_or}
use Rattle.std.specs.List.{cons_option}
use Rattle.region_table.specs.declared.interval.Interval.{Interval}
use Rattle.write_signature.specs.declared.signature.Signature.{Signature}
use Rattle.word_cache.specs.declared.row.Place.{Place}
use Rattle.word_cache.specs.Cache.{Pair, stays, unmarked, is_fresh, dropped_written, dropped_signed}
use Rattle.word_cache.specs.Row.{by_use, pairs_of, pairs_by_use, IsOfSet, AreOfOthers, IsCacheRow, after_phase, after_grant, pair_after_phase, pair_after_grant}
use Rattle.word_cache.proofs.OrderLemmas.{by_use-map}

-- the first i places are changed, and then one more
pub swept-more : {X : Type 0} (f : X → X) (xs : List X) (i : ℕ) (d : X) → i < length xs → set (map f (take i xs) ++ drop i xs) i (f (get_or xs i d)) ≡ map f (take (suc i) xs) ++ drop (suc i) xs
swept-more f [] i d within = absurd (omega arith)
swept-more f (x ∷ xs) zero d within = refl
swept-more {X = X} f (x ∷ xs) (suc i) d within =
    ap (λ (ys : List X). f x ∷ ys) (swept-more f xs i d (omega (arith, within)))

pub swept-get : {X : Type 0} (f : X → X) (xs : List X) (i : ℕ) (d : X) → i < length xs → get_or (map f (take i xs) ++ drop i xs) i d ≡ get_or xs i d
swept-get f [] i d within = absurd (omega arith)
swept-get f (x ∷ xs) zero d within = refl
swept-get f (x ∷ xs) (suc i) d within = swept-get f xs i d (omega (arith, within))

pub swept-step : {X : Type 0} (f : X → X) (xs ys : List X) (i : ℕ) (x : X) → ys ≡ map f (take i xs) ++ drop i xs → x ≡ get_or ys i x → i < length xs → set ys i (f x) ≡ map f (take (i + 1) xs) ++ drop (i + 1) xs
swept-step f xs ys i x at here within =
    let first : x ≡ get_or xs i x = here ∙ rw at (swept-get f xs i x within) in
    rw (at, add-one) (ap (λ z. set (map f (take i xs) ++ drop i xs) i (f z)) first ∙ swept-more f xs i x within)

-- a place that the change leaves as it is
pub swept-kept : {X : Type 0} (f : X → X) (xs ys : List X) (i : ℕ) (x : X) → ys ≡ map f (take i xs) ++ drop i xs → x ≡ get_or ys i x → i < length xs → f x ≡ x → ys ≡ map f (take (i + 1) xs) ++ drop (i + 1) xs
swept-kept {X = X} f xs ys i x at here within same =
    let kept : set ys i x ≡ ys = ap (set ys i) here ∙ set-get_or ys i x in
    sym kept ∙ ap (set ys i) (sym same) ∙ swept-step f xs ys i x at here within

get_or-map : (f : Place → Place) (row : List Place) (i : ℕ) (d e : Place) → i < length row → get_or (map f row) i d ≡ f (get_or row i e)
get_or-map f [] i d e within = absurd (omega arith)
get_or-map f (x ∷ xs) zero d e within = refl
get_or-map f (x ∷ xs) (suc i) d e within = get_or-map f xs i d e (omega (arith, within))

-- a place keeps its word, or loses its pair
abbrev pub Keeps : Option Pair → Option Pair → Type 0
Keeps None old = Unit {0}
Keeps (Some a) None = ⊥
Keeps (Some a) (Some b) = a.0.0 ≡ b.0.0

pub keeps_apart : (a b c d : Option Pair) → Keeps a c → Keeps b d → AreOfOthers c d → AreOfOthers a b
keeps_apart None b c d p q apart = tt
keeps_apart (Some x) None c d p q apart = tt
keeps_apart (Some x) (Some y) None d p q apart = absurd p
keeps_apart (Some x) (Some y) (Some z) None p q apart = absurd q
keeps_apart (Some x) (Some y) (Some z) (Some w) p q apart = λ same. apart (sym p ∙ same ∙ q)

pub keeps_set : (sets set : ℕ) (a c : Option Pair) → Keeps a c → IsOfSet sets set c → IsOfSet sets set a
keeps_set sets set None c p of_set = tt
keeps_set sets set (Some x) None p of_set = absurd p
keeps_set sets set (Some x) (Some z) p of_set = rw p of_set

pub row-map : (f : Place → Place) (sets ways clock : ℕ) (row : List Place) → ((q : Place) → (f q).used ≡ q.used) → ((q : Place) → Keeps (f q).pair q.pair) → IsCacheRow sets ways clock row → IsCacheRow sets ways clock (map f row)
row-map f sets ways clock row times keeps good =
    record {
      row_is = record {
        some_sets = good.row_is.some_sets;
        most_sets = good.row_is.most_sets;
        some_ways = good.row_is.some_ways;
        most_ways = good.row_is.most_ways;
        whole = length-map row f ∙ good.row_is.whole;
        numbered = λ i d bi. rw (get_or-map f row i d d (low i bi), times (get_or row i d)) (good.row_is.numbered i d (low i bi));
        times = λ i j d e bi bj other. rw (get_or-map f row i d d (low i bi), get_or-map f row j e e (low j bj), times (get_or row i d), times (get_or row j e)) (good.row_is.times i j d e (low i bi) (low j bj) other);
        words = λ i j d e bi bj other. rw (get_or-map f row i d d (low i bi), get_or-map f row j e e (low j bj)) (keeps_apart (f (get_or row i d)).pair (f (get_or row j e)).pair (get_or row i d).pair (get_or row j e).pair (keeps (get_or row i d)) (keeps (get_or row j e)) (good.row_is.words i j d e (low i bi) (low j bj) other));
        placed = λ i d bi. rw (get_or-map f row i d d (low i bi)) (keeps_set sets (i / ways) (f (get_or row i d)).pair (get_or row i d).pair (keeps (get_or row i d)) (good.row_is.placed i d (low i bi)));
      };
      before = λ i d bi. rw (get_or-map f row i d d (low i bi), times (get_or row i d)) (good.before i d (low i bi));
    } where
      low : (i : ℕ) → i < length (map f row) → i < length row
      low i below = omega (arith, below, length-map row f)

-- what is left at a phase's end
phase-cons : (words : List Interval) (o : Option Pair) (ps : List Pair) → cons_option (pair_after_phase words o) (dropped_written words ps) ≡ dropped_written words (cons_option o ps)
phase-cons words None ps = refl
phase-cons words (Some a) ps = by_test (stays words a) refl where
  by_test : (t : Bool) → stays words a ≡ t → cons_option (pair_after_phase words (Some a)) (dropped_written words ps) ≡ dropped_written words (a ∷ ps)
  by_test true e = rw e refl
  by_test false e = rw e refl

phase-pairs : (words : List Interval) (ps : List Place) → pairs_of (map (after_phase words) ps) ≡ dropped_written words (pairs_of ps)
phase-pairs words [] = refl
phase-pairs words (q ∷ qs) =
    ap (cons_option (pair_after_phase words q.pair)) (phase-pairs words qs) ∙ phase-cons words q.pair (pairs_of qs)

pub swept_phase : (words : List Interval) (row : List Place) → pairs_by_use (map (after_phase words) row) ≡ dropped_written words (pairs_by_use row)
swept_phase words row =
    ap pairs_of (by_use-map (after_phase words) (λ q. refl) row) ∙ phase-pairs words (by_use row)

phase-keeps : (words : List Interval) (o : Option Pair) → Keeps (pair_after_phase words o) o
phase-keeps words None = tt
phase-keeps words (Some a) = by_test (stays words a) where
  by_test : (t : Bool) → Keeps (cond t (Some (a.0, unmarked a.1)) None) (Some a)
  by_test true = refl
  by_test false = tt

pub row_after_phase : (words : List Interval) (sets ways clock : ℕ) (row : List Place) → IsCacheRow sets ways clock row → IsCacheRow sets ways clock (map (after_phase words) row)
row_after_phase words sets ways clock row good =
    row-map (after_phase words) sets ways clock row (λ q. refl) (λ q. phase-keeps words q.pair) good

-- what is left at a grant
grant-cons : (signature : Signature) (phase : ℕ) (words : List Interval) (o : Option Pair) (ps : List Pair) → cons_option (pair_after_grant signature phase words o) (dropped_signed signature phase words ps) ≡ dropped_signed signature phase words (cons_option o ps)
grant-cons signature phase words None ps = refl
grant-cons signature phase words (Some a) ps = by_test (is_fresh signature phase words a) refl where
  by_test : (t : Bool) → is_fresh signature phase words a ≡ t → cons_option (pair_after_grant signature phase words (Some a)) (dropped_signed signature phase words ps) ≡ dropped_signed signature phase words (a ∷ ps)
  by_test true e = rw e refl
  by_test false e = rw e refl

grant-pairs : (signature : Signature) (phase : ℕ) (words : List Interval) (ps : List Place) → pairs_of (map (after_grant signature phase words) ps) ≡ dropped_signed signature phase words (pairs_of ps)
grant-pairs signature phase words [] = refl
grant-pairs signature phase words (q ∷ qs) =
    ap (cons_option (pair_after_grant signature phase words q.pair)) (grant-pairs signature phase words qs) ∙ grant-cons signature phase words q.pair (pairs_of qs)

pub swept_grant : (signature : Signature) (phase : ℕ) (words : List Interval) (row : List Place) → pairs_by_use (map (after_grant signature phase words) row) ≡ dropped_signed signature phase words (pairs_by_use row)
swept_grant signature phase words row =
    ap pairs_of (by_use-map (after_grant signature phase words) (λ q. refl) row) ∙ grant-pairs signature phase words (by_use row)

grant-keeps : (signature : Signature) (phase : ℕ) (words : List Interval) (o : Option Pair) → Keeps (pair_after_grant signature phase words o) o
grant-keeps signature phase words None = tt
grant-keeps signature phase words (Some a) = by_test (is_fresh signature phase words a) where
  by_test : (t : Bool) → Keeps (cond t (Some a) None) (Some a)
  by_test true = refl
  by_test false = tt

pub row_after_grant : (signature : Signature) (phase : ℕ) (words : List Interval) (sets ways clock : ℕ) (row : List Place) → IsCacheRow sets ways clock row → IsCacheRow sets ways clock (map (after_grant signature phase words) row)
row_after_grant signature phase words sets ways clock row good =
    row-map (after_grant signature phase words) sets ways clock row (λ q. refl) (λ q. grant-keeps signature phase words q.pair) good
