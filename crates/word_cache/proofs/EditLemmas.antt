-- What each edit of a cache's row comes to: its invariant, and its pairs.
use Rattle.std.proofs.Common.{◌≡◌, ◌≢◌, ℕ, ◌+◌, ◌*◌, ◌/◌, ◌%◌, ◌<◌, ◌≤◌, Bool, true, false, nat_lt, List, [], ◌∷◌, ◌++◌, length, get_or, set, Option, Some, None, refl, arith, ap, ◌∙◌, sym, zero, suc}
use Rattle.std.specs.Prelude.{count_by}
use Rattle.std.specs.List.{find}
use Rattle.std.specs.Option.{option_map}
use Rattle.std.proofs.lemmas.Nat.{mul-le}
use Rattle.std.proofs.lemmas.Bool.{eqb-true}
use Rattle.std.proofs.lemmas.Bool.Decides.{nat_tests}
use Rattle.dn_base.specs.declared.ids.WordId.{WordId}
use Rattle.word_cache.specs.declared.row.Entry.{Entry}
use Rattle.word_cache.specs.declared.row.Place.{Place}
use Rattle.word_cache.specs.Cache.{Pair, lookup, put, touched, shares_set, is_pending, pending_count, gives_way}
use Rattle.word_cache.specs.Row.{by_use, pairs_of, pairs_by_use, has_word, pair_is_of, IsOfSet, MayHold, IsPlaceRow, AreBefore, IsCacheRow, IsLeastUsed, pair_gives_way, place_gives_way, pair_may_go, place_may_go, passes}
use Rattle.word_cache.proofs.OrderLemmas.{Each, Each-get, Each-by_use, Each-others, count-by_use}
use Rattle.word_cache.proofs.SetLemmas.{from_start}
use Rattle.word_cache.proofs.CountLemmas.{counted, count-most}
use Rattle.word_cache.proofs.TimeLemmas.{find_first, find_no}
use Rattle.word_cache.proofs.RowLemmas.{of_other, pair_there, get_some, written_last, IsRow-set, AreBefore-set}
use Rattle.word_cache.proofs.SweepLemmas.{Keeps, keeps_apart, keeps_set}

-- a row as a cache begins
new_pairs : (ps : List Place) → Each (λ (q : Place). q.pair ≡ None) ps → pairs_of ps ≡ []
new_pairs [] none = refl
new_pairs (q ∷ qs) none = rw none.0 (new_pairs qs none.1)

pub new_row : (sets ways : ℕ) (row : List Place) → 0 < sets → sets ≤ 256 → 0 < ways → ways ≤ 16 → length row ≡ sets * ways → ((i : ℕ) (d : Place) → i < length row → get_or row i d ≡ record { pair = None; used = i + 1 }) → IsCacheRow sets ways (sets * ways + 1) row
new_row sets ways row s1 s2 w1 w2 whole each =
    record {
      row_is = record {
        some_sets = s1;
        most_sets = s2;
        some_ways = w1;
        most_ways = w2;
        whole = whole;
        numbered = λ i d bi. rw (each i d bi) (omega arith);
        times = λ i j d e bi bj other same. other (omega (arith, ap (λ (q : Place). q.used) (sym (each i d bi)) ∙ same ∙ ap (λ (q : Place). q.used) (each j e bj)));
        words = λ i j d e bi bj other. rw (each i d bi) tt;
        placed = λ i d bi. rw (each i d bi) tt;
      };
      before = λ i d bi. rw (each i d bi) (omega (arith, bi, whole));
    }

pub new_row_pairs : (row : List Place) → ((i : ℕ) (d : Place) → i < length row → get_or row i d ≡ record { pair = None; used = i + 1 }) → pairs_by_use row ≡ []
new_row_pairs row each =
    new_pairs (by_use row) (Each-by_use (λ (q : Place). q.pair ≡ None) row (Each-get (λ (q : Place). q.pair ≡ None) row (λ i d below. ap (λ (q : Place). q.pair) (each i d below))))

push_below : (row : List Place) (x : Place) (i : ℕ) (d : Place) → i < length row → get_or (row ++ x ∷ []) i d ≡ get_or row i d
push_below [] x i d below = absurd (omega arith)
push_below (q ∷ qs) x zero d below = refl
push_below (q ∷ qs) x (suc i) d below = push_below qs x i d (omega (arith, below))

push_last : (row : List Place) (x : Place) (d : Place) → get_or (row ++ x ∷ []) (length row) d ≡ x
push_last [] x d = refl
push_last (q ∷ qs) x d = push_last qs x d

pub new_place : (row : List Place) (n : ℕ) → length row ≡ n → ((i : ℕ) (d : Place) → i < n → get_or row i d ≡ record { pair = None; used = i + 1 }) → (i : ℕ) (d : Place) → i < n + 1 → get_or (row ++ record { pair = None; used = n + 1 } ∷ []) i d ≡ record { pair = None; used = i + 1 }
new_place row n long each i d below = by_test (nat_lt i n) refl where
  by_test : (t : Bool) → nat_lt i n ≡ t → get_or (row ++ record { pair = None; used = n + 1 } ∷ []) i d ≡ record { pair = None; used = i + 1 }
  by_test true e =
      let lower : i < n = grind (arith, nat_tests) in
      push_below row (record { pair = None; used = n + 1 }) i d (omega (arith, lower, long)) ∙ each i d lower
  by_test false e =
      let last : i ≡ n = grind (arith, nat_tests) in
      rw (last, ← long) (push_last row (record { pair = None; used = length row + 1 }) d)

-- the entry at the word's place
pub entry_found : (sets ways k : ℕ) (d : Place) (word : WordId) (row : List Place) → IsPlaceRow sets ways row → k < length row → has_word word.0 (get_or row k d) ≡ true → option_map (λ (p : Pair). p.1) (get_or row k d).pair ≡ lookup word.0 (pairs_by_use row)
entry_found sets ways k d word row good within here =
    let mine = pair_there word (get_or row k d).pair here in
    ap (option_map (λ (p : Pair). p.1)) mine.1 ∙ sym (get_some sets ways k d word mine.0 row good within mine.1)

-- the word's pair is written, and is the one used last
pub wrote : (sets ways k time : ℕ) (d : Place) (word : WordId) (e : Entry) (row : List Place) → IsPlaceRow sets ways row → k < length row → AreBefore time row → k / ways ≡ word.0 % sets → MayHold word.0 (get_or row k d).pair → ((j : ℕ) (f : Place) → j < length row → j ≢ k → has_word word.0 (get_or row j f) ≡ false) → IsCacheRow sets ways (time + 1) (set row k (record { pair = Some (word, e); used = time })) × (pairs_by_use (set row k (record { pair = Some (word, e); used = time })) ≡ put word e (pairs_by_use row))
wrote sets ways k time d word e row good within before place may absent = (
  record {
    row_is = IsRow-set sets ways k (record { pair = Some (word, e); used = time }) row good within (omega (arith, before k d within)) (λ j f below other same. omega (arith, before j f below, same)) (λ j f below other. of_other word e (get_or row j f).pair (absent j f below other)) (sym place);
    before = AreBefore-set (time + 1) k (record { pair = Some (word, e); used = time }) row (λ j f below. omega (arith, before j f below)) within (omega arith);
  },
  written_last sets ways k d word e (record { pair = Some (word, e); used = time }) row good within before refl (Each-others (λ (q : Place). has_word word.0 q ≡ false) row k (λ j f below other. absent j f below other)) may,
)

pub touched_is : (word : WordId) (e : Entry) (ps : List Pair) → lookup word.0 ps ≡ Some e → touched word ps ≡ put word e ps
touched_is word e ps there = rw there refl

-- a place keeps its time, and its word or no pair
pub kept_row : (sets ways k clock : ℕ) (d y : Place) (row : List Place) → IsCacheRow sets ways clock row → k < length row → y.used ≡ (get_or row k d).used → Keeps y.pair (get_or row k d).pair → IsCacheRow sets ways clock (set row k y)
kept_row sets ways k clock d y row good within time keeps =
    record {
      row_is = IsRow-set sets ways k y row good.row_is within (omega (arith, time, good.row_is.numbered k d within))
          (λ j f below other same. good.row_is.times j k f d below within other (same ∙ time))
          (λ j f below other. keeps_apart (get_or row j f).pair y.pair (get_or row j f).pair (get_or row k d).pair (itself (get_or row j f).pair) keeps (good.row_is.words j k f d below within other))
          (keeps_set sets (k / ways) y.pair (get_or row k d).pair keeps (good.row_is.placed k d within));
      before = AreBefore-set clock k y row good.before within (omega (arith, time, good.before k d within));
    } where
      itself : (o : Option Pair) → Keeps o o
      itself None = tt
      itself (Some a) = refl

-- at most as many entries are pending as there are places
pub pending_limit : (sets ways : ℕ) (row : List Place) → IsPlaceRow sets ways row → pending_count (pairs_by_use row) ≤ 4096
pending_limit sets ways row good =
    let counts : pending_count (pairs_by_use row) ≡ count_by (λ (q : Place). passes (λ (p : Pair). is_pending p.1) q.pair) row = count-by_use (λ (p : Pair). is_pending p.1) row in
    let most = count-most (λ (q : Place). passes (λ (p : Pair). is_pending p.1) q.pair) row in
    let size = mul-le sets ways 256 16 good.most_sets good.most_ways in
    omega (arith, counts, most, size, good.whole)

-- in the word's set a pair gives way exactly where it may be evicted
pub way_given : (sets ways w k : ℕ) (q : Place) → IsOfSet sets (k / ways) q.pair → k / ways ≡ w % sets → place_gives_way sets w q ≡ place_may_go q
way_given sets ways w k q of_set at = by_pair q.pair of_set where
  by_pair : (o : Option Pair) → IsOfSet sets (k / ways) o → pair_gives_way sets w o ≡ pair_may_go o
  by_pair None of_set = refl
  by_pair (Some a) of_set = let here : shares_set sets w a ≡ true = grind (arith, nat_tests) in rw here refl

-- the victim
same_test : (sets w : ℕ) (o : Option Pair) → passes (gives_way sets w) o ≡ pair_gives_way sets w o
same_test sets w None = refl
same_test sets w (Some a) = refl

of_set : (sets w at : ℕ) (o : Option Pair) → IsOfSet sets at o → passes (gives_way sets w) o ≡ true → at ≡ w % sets
of_set sets w at None is passing = absurd (cc)
of_set sets w at (Some a) is passing = grind (arith, nat_tests)

pub victim_found : (sets ways w k : ℕ) (d : Place) (row : List Place) → IsPlaceRow sets ways row → IsLeastUsed (place_gives_way sets w) row (w % sets * ways) (w % sets * ways + ways) (Some k) → option_map (λ (p : Pair). p.0) (get_or row k d).pair ≡ option_map (λ (p : Pair). p.0) (find (gives_way sets w) (pairs_by_use row))
victim_found sets ways w k d row good first = by_pair (get_or row k d).pair refl (first.2 d) where
  least : (j : ℕ) (e : Place) → j < length row → passes (gives_way sets w) (get_or row j e).pair ≡ true → (get_or row k d).used ≤ (get_or row j e).used
  least j e below passing =
      let bounds = from_start (w % sets) ways j good.some_ways (of_set sets w (j / ways) (get_or row j e).pair (good.placed j e below) passing) in
      first.3 j e d bounds.0 bounds.1 (sym (same_test sets w (get_or row j e).pair) ∙ passing)

  by_pair : (o : Option Pair) → (get_or row k d).pair ≡ o → pair_gives_way sets w o ≡ true → option_map (λ (p : Pair). p.0) o ≡ option_map (λ (p : Pair). p.0) (find (gives_way sets w) (pairs_by_use row))
  by_pair None e passing = absurd (cc)
  by_pair (Some a) e passing =
      let within : k < length row = omega (arith, first.1, (counted sets ways w row good).1) in
      ap (option_map (λ (p : Pair). p.0)) (sym (find_first sets ways k d (gives_way sets w) a row good within e passing least))

pub victim_none : (sets ways w : ℕ) (row : List Place) → IsPlaceRow sets ways row → IsLeastUsed (place_gives_way sets w) row (w % sets * ways) (w % sets * ways + ways) None → find (gives_way sets w) (pairs_by_use row) ≡ None
victim_none sets ways w row good none = find_no (gives_way sets w) row (λ j e below. by_test j e below (passes (gives_way sets w) (get_or row j e).pair) refl) where
  by_test : (j : ℕ) (e : Place) → j < length row → (t : Bool) → passes (gives_way sets w) (get_or row j e).pair ≡ t → t ≡ false
  by_test j e below false f = refl
  by_test j e below true f =
      let bounds = from_start (w % sets) ways j good.some_ways (of_set sets w (j / ways) (get_or row j e).pair (good.placed j e below) f) in
      let never = none j e bounds.0 bounds.1 in
      sym (sym (same_test sets w (get_or row j e).pair) ∙ f) ∙ never

-- the word's entry changes, and its place keeps its word
pub keeps_word : (word : WordId) (e : Entry) (o : Option Pair) → pair_is_of word.0 o ≡ true → Keeps (Some (word, e)) o
keeps_word word e None here = absurd (cc)
keeps_word word e (Some a) here = sym (eqb-true a.0.0 word.0 here)
