-- What the counts come to.
use Rattle.std.proofs.Common.{◌≡◌, ◌≢◌, ℕ, ◌+◌, ◌<◌, ◌++◌, ◌∷◌, [], Bool, true, false, cond, List, length, get_or, take, map, refl, ◌∙◌, arith, length-set}
use Rattle.std.specs.Prelude.{count_by}
use Rattle.std.proofs.lemmas.List.{take_more, map-append, get_or-set_same, get_or-set_other}
use Rattle.std.proofs.lemmas.List.Sums.{sum_by_push}
use Rattle.std.proofs.lemmas.Bool.Decides.{nat_tests}
use Rattle.message_net.specs.declared.event.EventKind.{EventKind}
use Rattle.message_net.specs.Kind.{kind_index}
use Rattle.grant_log.specs.declared.log.Stamped.{Stamped}
use Rattle.grant_log.specs.declared.counts.Counts.{Counts}
use Rattle.grant_log.specs.Counts.{same_kind, kind_count, added, AreCounts}

-- each kind has a place among the seventeen
pub place_within : (k : EventKind) → kind_index k < 17
place_within k = grind arith

-- one more event of a kind raises that kind's count, and no other
count_of-added : (j k : EventKind) (counts : Counts) → kind_index k < length counts.kinds → kind_count j (added k counts) ≡ kind_count j counts + cond (same_kind j k) 1 0
count_of-added j k counts within = by_test (same_kind j k) refl where
  by_test : (t : Bool) → same_kind j k ≡ t → kind_count j (added k counts) ≡ kind_count j counts + cond t 1 0
  by_test true e =
      let same : kind_index j ≡ kind_index k = grind (arith, nat_tests) in
      rw same (get_or-set_same counts.kinds (kind_index k) (kind_count k counts + 1) 0 within)
  by_test false e =
      let other : kind_index j ≢ kind_index k = grind (arith, nat_tests) in
      get_or-set_other counts.kinds (kind_index k) (kind_index j) (kind_count k counts + 1) 0 other ∙ omega arith

pub raises : (j k : EventKind) (counts : Counts) → length counts.kinds ≡ 17 → kind_count j (added k counts) ≡ kind_count j counts + cond (same_kind j k) 1 0
raises j k counts all = count_of-added j k counts (rw all (place_within k))

-- the count of a list with one more event
count_by-push : (p : EventKind → Bool) (kinds : List EventKind) (k : EventKind) → count_by p (kinds ++ k ∷ []) ≡ count_by p kinds + cond (p k) 1 0
count_by-push p kinds k = sum_by_push (λ x. cond (p x) 1 0) kinds k

-- counts of a list stay so with one more event
pub AreCounts-added : (kinds : List EventKind) (k : EventKind) (counts : Counts) → kind_index k < length counts.kinds → AreCounts kinds counts → AreCounts (kinds ++ k ∷ []) (added k counts)
AreCounts-added kinds k counts within told j =
    count_of-added j k counts within ∙ omega (arith, told j, count_by-push (same_kind j) kinds k)

pub length-added : (k : EventKind) (counts : Counts) → length (added k counts).kinds ≡ length counts.kinds
length-added k counts = length-set counts.kinds (kind_index k) (kind_count k counts + 1)

-- the kinds of one more entry
kinds_more : (entries : List Stamped) (i : ℕ) (d : Stamped) → i < length entries → map (λ (e : Stamped). e.kind) (take (i + 1) entries) ≡ map (λ (e : Stamped). e.kind) (take i entries) ++ (get_or entries i d).kind ∷ []
kinds_more entries i d within = rw (take_more entries i d within) (map-append (λ (e : Stamped). e.kind) (take i entries) (get_or entries i d ∷ []))

-- what the loop over the entries keeps: there are seventeen counts, and they are those of the entries so far
pub record AreCountsOf (entries : List Stamped) (counts : Counts) : Type 0 where
  pub all : length counts.kinds ≡ 17
  pub told : AreCounts (map (λ (e : Stamped). e.kind) entries) counts

pub one_more : (entries : List Stamped) (i : ℕ) (d : Stamped) (counts new : Counts) → i < length entries → AreCountsOf (take i entries) counts → new ≡ added (get_or entries i d).kind counts → AreCountsOf (take (i + 1) entries) new
one_more entries i d counts new within before is =
    let k = (get_or entries i d).kind in
    let place : kind_index k < length counts.kinds = rw before.all (place_within k) in
    record { all = rw is (length-added k counts ∙ before.all); told = rw (is, kinds_more entries i d within) (AreCounts-added (map (λ (e : Stamped). e.kind) (take i entries)) k counts place before.told) }
