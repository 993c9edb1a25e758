-- What the calls do to the row of a cache, and what the pairs are then.
use Rattle.std.proofs.Common.{◌≡◌, ◌≢◌, ℕ, ◌/◌, ◌%◌, ◌<◌, ◌≤◌, ◌==◌, Bool, true, false, List, [], ◌∷◌, ◌++◌, length, get_or, set, Option, Some, None, refl, arith, ap, ◌∙◌, sym, length-set}
use Rattle.std.proofs.lemmas.Bool.{eqb-true, eqb-false}
use Rattle.std.proofs.lemmas.Bool.Decides.{nat_tests}
use Rattle.std.proofs.lemmas.List.{get_or-set_same, get_or-set_other}
use Rattle.dn_base.specs.declared.ids.WordId.{WordId}
use Rattle.word_cache.specs.declared.row.Entry.{Entry}
use Rattle.word_cache.specs.declared.row.Place.{Place}
use Rattle.word_cache.specs.Cache.{Pair, lookup, without, put, changed}
use Rattle.word_cache.specs.Row.{by_use, pairs_of, pairs_by_use, has_word, pair_is_of, AreOfOthers, IsOfSet, MayHold, IsPlaceRow, AreFrom, AreBefore}
use Rattle.word_cache.proofs.OrderLemmas.{Each, Each-get, Each-by_use, Each-others, others, by_use-set, by_use-at, Lacks, pairs-empty, pairs-last, lookup-none, lookup-put, without-none, without-put, changed-put}

-- pairs of other words
other_word : (w : ℕ) (o p : Option Pair) → AreOfOthers o p → pair_is_of w p ≡ true → pair_is_of w o ≡ false
other_word w None p apart here = refl
other_word w (Some a) None apart here = absurd (cc)
other_word w (Some a) (Some b) apart here = by_test (a.0.0 == w) refl where
  by_test : (t : Bool) → (a.0.0 == w) ≡ t → t ≡ false
  by_test false e = refl
  by_test true e =
      let first : a.0.0 ≡ w = eqb-true a.0.0 w e in
      let second : b.0.0 ≡ w = eqb-true b.0.0 w here in
      absurd (apart (first ∙ sym second))

apart_back : (o p : Option Pair) → AreOfOthers o p → AreOfOthers p o
apart_back None None apart = tt
apart_back None (Some b) apart = tt
apart_back (Some a) None apart = tt
apart_back (Some a) (Some b) apart = λ same. apart (sym same)

pub of_other : (word : WordId) (e : Entry) (o : Option Pair) → pair_is_of word.0 o ≡ false → AreOfOthers o (Some (word, e))
of_other word e None other = tt
of_other word e (Some a) other = λ same. eqb-false a.0.0 word.0 other same

-- the pair of a word that is there
pub pair_there : (word : WordId) (o : Option Pair) → pair_is_of word.0 o ≡ true → (e : Entry) × (o ≡ Some (word, e))
pair_there word None here = absurd (cc)
pair_there word (Some a) here =
    (a.1, ap (λ (n : ℕ). let p : Option Pair = Some (record { 0 = n }, a.1) in p) (eqb-true a.0.0 word.0 here))

pub may_hold : (w : ℕ) (o : Option Pair) → pair_is_of w o ≡ true → MayHold w o
may_hold w None here = tt
may_hold w (Some a) here = here

pub others_lack : (sets ways k : ℕ) (d : Place) (w : ℕ) (row : List Place) → IsPlaceRow sets ways row → k < length row → has_word w (get_or row k d) ≡ true → Lacks w (others row k)
others_lack sets ways k d w row good within here =
    Each-others (λ (q : Place). has_word w q ≡ false) row k
    (λ j e below other. other_word w (get_or row j e).pair (get_or row k d).pair (good.words j k e d below within other) here)

pub others_apart : (sets ways k : ℕ) (d : Place) (row : List Place) → IsPlaceRow sets ways row → k < length row → Each (λ (q : Place). q.used ≢ (get_or row k d).used) (others row k)
others_apart sets ways k d row good within =
    Each-others (λ (q : Place). q.used ≢ (get_or row k d).used) row k (λ j e below other. good.times j k e d below within other)

pub all_lack : (w : ℕ) (row : List Place) → ((k : ℕ) (d : Place) → k < length row → has_word w (get_or row k d) ≡ false) → Lacks w row
all_lack w row none = Each-get (λ (q : Place). has_word w q ≡ false) row none

-- a look-up
pub get_some : (sets ways k : ℕ) (d : Place) (word : WordId) (e : Entry) (row : List Place) → IsPlaceRow sets ways row → k < length row → (get_or row k d).pair ≡ Some (word, e) → lookup word.0 (pairs_by_use row) ≡ Some e
get_some sets ways k d word e row good within here =
    let mine : has_word word.0 (get_or row k d) ≡ true = ap (pair_is_of word.0) here ∙ grind (arith, nat_tests) in
    let lacks = Each-by_use (λ (q : Place). has_word word.0 q ≡ false) (others row k) (others_lack sets ways k d word.0 row good within mine) in
    ap (λ (ps : List Place). lookup word.0 (pairs_of ps)) (by_use-at row k d within (others_apart sets ways k d row good within))
    ∙ lookup-put word e (get_or row k d) (by_use (others row k)) here lacks

pub get_none : (w : ℕ) (row : List Place) → ((k : ℕ) (d : Place) → k < length row → has_word w (get_or row k d) ≡ false) → lookup w (pairs_by_use row) ≡ None
get_none w row none =
    lookup-none w (by_use row) (Each-by_use (λ (q : Place). has_word w q ≡ false) row (all_lack w row none))

-- what stands beside a place lacks its word, in the order of use too
-- where a word has no pair, no place has it
pub has-none : (sets ways w : ℕ) (row : List Place) → IsPlaceRow sets ways row → lookup w (pairs_by_use row) ≡ None → (k : ℕ) (d : Place) → k < length row → has_word w (get_or row k d) ≡ false
has-none sets ways w row good none k d within = by_test (has_word w (get_or row k d)) refl where
  by_test : (t : Bool) → has_word w (get_or row k d) ≡ t → t ≡ false
  by_test false e = refl
  by_test true e =
      let mine = pair_there (record { 0 = w }) (get_or row k d).pair e in
      let never : None ≡ Some mine.0 = sym none ∙ get_some sets ways k d (record { 0 = w }) mine.0 row good within mine.1 in
      absurd (cc)

beside : (w : ℕ) (row : List Place) (k : ℕ) → Lacks w (others row k) → Lacks w (by_use (others row k))
beside w row k lacks = Each-by_use (λ (q : Place). has_word w q ≡ false) (others row k) lacks

-- without the word of a place, the pairs are those of the other places
gone : (sets ways k : ℕ) (d : Place) (word : WordId) (row : List Place) → IsPlaceRow sets ways row → k < length row → MayHold word.0 (get_or row k d).pair → Lacks word.0 (others row k) → without word.0 (pairs_by_use row) ≡ pairs_of (by_use (others row k))
gone sets ways k d word row good within may lacks = by_pair (get_or row k d).pair refl may where
  by_pair : (o : Option Pair) → (get_or row k d).pair ≡ o → MayHold word.0 o → without word.0 (pairs_by_use row) ≡ pairs_of (by_use (others row k))
  by_pair None e may =
      ap (λ (ps : List Place). without word.0 (pairs_of ps)) (by_use-at row k d within (others_apart sets ways k d row good within))
      ∙ ap (without word.0) (pairs-empty (get_or row k d) (by_use (others row k)) e)
      ∙ without-none word.0 (by_use (others row k)) (beside word.0 row k lacks)
  by_pair (Some a) e may =
      let mine = pair_there word (Some a) may in
      ap (λ (ps : List Place). without word.0 (pairs_of ps)) (by_use-at row k d within (others_apart sets ways k d row good within))
      ∙ without-put word mine.0 (get_or row k d) (by_use (others row k)) (e ∙ mine.1) (beside word.0 row k lacks)

-- the word's pair is written at its place, or at one without a pair, and is the one used last
pub written_last : (sets ways k : ℕ) (d : Place) (word : WordId) (e : Entry) (y : Place) (row : List Place) → IsPlaceRow sets ways row → k < length row → AreBefore y.used row → y.pair ≡ Some (word, e) → Lacks word.0 (others row k) → MayHold word.0 (get_or row k d).pair → pairs_by_use (set row k y) ≡ put word e (pairs_by_use row)
written_last sets ways k d word e y row good within before mine lacks may =
    ap pairs_of (by_use-set row k y within (Each-others (λ (q : Place). q.used ≢ y.used) row k (λ j f below other same. omega (arith, before j f below, same))))
    ∙ pairs-last y word e (by_use (others row k)) mine (Each-by_use (λ (q : Place). q.used < y.used) (others row k) (Each-others (λ (q : Place). q.used < y.used) row k (λ j f below other. before j f below)))
    ∙ ap (λ (ps : List Pair). ps ++ (word, e) ∷ []) (sym (gone sets ways k d word row good within may lacks))

-- a place is written, and its time stays
still_apart : (sets ways k : ℕ) (d y : Place) (row : List Place) → IsPlaceRow sets ways row → k < length row → y.used ≡ (get_or row k d).used → Each (λ (q : Place). q.used ≢ y.used) (others row k)
still_apart sets ways k d y row good within time =
    Each-others (λ (q : Place). q.used ≢ y.used) row k (λ j f below other same. good.times j k f d below within other (same ∙ time))

pub changed_there : (sets ways k : ℕ) (d : Place) (word : WordId) (e new : Entry) (y : Place) (row : List Place) → IsPlaceRow sets ways row → k < length row → (get_or row k d).pair ≡ Some (word, e) → y.pair ≡ Some (word, new) → y.used ≡ (get_or row k d).used → Lacks word.0 (others row k) → pairs_by_use (set row k y) ≡ changed word.0 new (pairs_by_use row)
changed_there sets ways k d word e new y row good within here mine time lacks =
    ap pairs_of (by_use-set row k y within (still_apart sets ways k d y row good within time))
    ∙ changed-put word e new (get_or row k d) y (by_use (others row k)) here mine time (beside word.0 row k lacks)
    ∙ ap (λ (ps : List Place). changed word.0 new (pairs_of ps)) (sym (by_use-at row k d within (others_apart sets ways k d row good within)))

pub removed_there : (sets ways k : ℕ) (d : Place) (word : WordId) (y : Place) (row : List Place) → IsPlaceRow sets ways row → k < length row → has_word word.0 (get_or row k d) ≡ true → y.pair ≡ None → y.used ≡ (get_or row k d).used → pairs_by_use (set row k y) ≡ without word.0 (pairs_by_use row)
removed_there sets ways k d word y row good within here none time =
    ap pairs_of (by_use-set row k y within (still_apart sets ways k d y row good within time))
    ∙ pairs-empty y (by_use (others row k)) none
    ∙ sym (gone sets ways k d word row good within (may_hold word.0 (get_or row k d).pair here) (others_lack sets ways k d word.0 row good within here))

pub absent : (w : ℕ) (row : List Place) → ((k : ℕ) (d : Place) → k < length row → has_word w (get_or row k d) ≡ false) → without w (pairs_by_use row) ≡ pairs_by_use row
absent w row none =
    without-none w (by_use row) (Each-by_use (λ (q : Place). has_word w q ≡ false) row (all_lack w row none))

-- what is true of each two places stays so
pairs_kept : (R : Place → Place → Type 0) → ((p q : Place) → R p q → R q p) → (row : List Place) (k : ℕ) (y : Place) → k < length row → ((i j : ℕ) (d e : Place) → i < length row → j < length row → i ≢ j → R (get_or row i d) (get_or row j e)) → ((j : ℕ) (d : Place) → j < length row → j ≢ k → R (get_or row j d) y) → (i j : ℕ) (d e : Place) → i < length (set row k y) → j < length (set row k y) → i ≢ j → R (get_or (set row k y) i d) (get_or (set row k y) j e)
pairs_kept R back row k y within all new i j d e bi bj other = by_test (i == k) (j == k) refl refl where
  here : (n : ℕ) (f : Place) → n ≡ k → get_or (set row k y) n f ≡ y
  here n f same = rw same (get_or-set_same row k y f within)

  low : (n : ℕ) → n < length (set row k y) → n < length row
  low n below = omega (arith, below, length-set row k y)

  by_test : (t u : Bool) → (i == k) ≡ t → (j == k) ≡ u → R (get_or (set row k y) i d) (get_or (set row k y) j e)
  by_test true true a b = absurd (other (eqb-true i k a ∙ sym (eqb-true j k b)))
  by_test true false a b =
      rw (here i d (eqb-true i k a), get_or-set_other row k j y e (eqb-false j k b)) (back (get_or row j e) y (new j e (low j bj) (eqb-false j k b)))
  by_test false true a b =
      rw (here j e (eqb-true j k b), get_or-set_other row k i y d (eqb-false i k a)) (new i d (low i bi) (eqb-false i k a))
  by_test false false a b =
      rw (get_or-set_other row k i y d (eqb-false i k a), get_or-set_other row k j y e (eqb-false j k b)) (all i j d e (low i bi) (low j bj) other)

AreFrom-set : (time k : ℕ) (y : Place) (row : List Place) → AreFrom time row → k < length row → time ≤ y.used → AreFrom time (set row k y)
AreFrom-set time k y row from within later i d below = by_test (i == k) refl where
  by_test : (t : Bool) → (i == k) ≡ t → time ≤ (get_or (set row k y) i d).used
  by_test true e =
      let same : i ≡ k = eqb-true i k e in
      rw (same, get_or-set_same row k y d within) later
  by_test false e =
      let low : i < length row = omega (arith, below, length-set row k y) in
      rw (get_or-set_other row k i y d (eqb-false i k e)) (from i d low)

pub IsRow-set : (sets ways k : ℕ) (y : Place) (row : List Place) → IsPlaceRow sets ways row → k < length row → 1 ≤ y.used → ((j : ℕ) (d : Place) → j < length row → j ≢ k → (get_or row j d).used ≢ y.used) → ((j : ℕ) (d : Place) → j < length row → j ≢ k → AreOfOthers (get_or row j d).pair y.pair) → IsOfSet sets (k / ways) y.pair → IsPlaceRow sets ways (set row k y)
IsRow-set sets ways k y row good within numbered time words place =
    record {
      some_sets = good.some_sets;
      most_sets = good.most_sets;
      some_ways = good.some_ways;
      most_ways = good.most_ways;
      whole = length-set row k y ∙ good.whole;
      numbered = AreFrom-set 1 k y row good.numbered within numbered;
      times = pairs_kept (λ (p q : Place). p.used ≢ q.used) (λ p q apart same. apart (sym same)) row k y within good.times time;
      words = pairs_kept (λ (p q : Place). AreOfOthers p.pair q.pair) (λ p q apart. apart_back p.pair q.pair apart) row k y within good.words words;
      placed = each;
    } where
      each : (i : ℕ) (d : Place) → i < length (set row k y) → IsOfSet sets (i / ways) (get_or (set row k y) i d).pair
      each i d below = by_test (i == k) refl where
        by_test : (t : Bool) → (i == k) ≡ t → IsOfSet sets (i / ways) (get_or (set row k y) i d).pair
        by_test true e =
            let same : i ≡ k = eqb-true i k e in
            rw (same, get_or-set_same row k y d within) place
        by_test false e =
            let low : i < length row = omega (arith, below, length-set row k y) in
            rw (get_or-set_other row k i y d (eqb-false i k e)) (good.placed i d low)

pub AreBefore-set : (clock k : ℕ) (y : Place) (row : List Place) → AreBefore clock row → k < length row → y.used < clock → AreBefore clock (set row k y)
AreBefore-set clock k y row before within earlier i d below = by_test (i == k) refl where
  by_test : (t : Bool) → (i == k) ≡ t → (get_or (set row k y) i d).used < clock
  by_test true e =
      let same : i ≡ k = eqb-true i k e in
      rw (same, get_or-set_same row k y d within) earlier
  by_test false e =
      let low : i < length row = omega (arith, below, length-set row k y) in
      rw (get_or-set_other row k i y d (eqb-false i k e)) (before i d low)

-- where a word stands: in its set, and nowhere else
pub place_of_word : (sets ways w k : ℕ) (d : Place) (row : List Place) → IsPlaceRow sets ways row → k < length row → has_word w (get_or row k d) ≡ true → k / ways ≡ w % sets
place_of_word sets ways w k d row good within here = by_pair (get_or row k d).pair (good.placed k d within) here where
  by_pair : (o : Option Pair) → IsOfSet sets (k / ways) o → pair_is_of w o ≡ true → k / ways ≡ w % sets
  by_pair None of_set here = absurd (cc)
  by_pair (Some a) of_set here = let same : a.0.0 ≡ w = eqb-true a.0.0 w here in rw (← same) (sym of_set)

pub nowhere_else : (sets ways w k : ℕ) (d : Place) (row : List Place) → IsPlaceRow sets ways row → k < length row → has_word w (get_or row k d) ≡ true → (j : ℕ) (e : Place) → j < length row → j ≢ k → has_word w (get_or row j e) ≡ false
nowhere_else sets ways w k d row good within here j e below other =
    other_word w (get_or row j e).pair (get_or row k d).pair (good.words j k e d below within other) here
