-- The words of a row's pairs differ, and a set has no more pairs than places.
use Rattle.std.proofs.Common.{◌≡◌, ◌≢◌, ℕ, suc, ◌*◌, ◌%◌, ◌<◌, ◌≤◌, Bool, true, false, cond, nat_lt, List, [], ◌∷◌, length, get_or, take, drop, Option, Some, None, refl, sym, arith, length-take}
use Rattle.std.specs.List.{cons_option}
use Rattle.std.proofs.lemmas.Bool.Decides.{nat_tests}
use Rattle.word_cache.specs.declared.row.Place.{Place}
use Rattle.word_cache.specs.Cache.{Pair, AreDifferent, set_count}
use Rattle.word_cache.specs.Row.{put_by_use, by_use, pairs_of, pairs_by_use, pair_is_of, AreOfOthers, IsPlaceRow}
use Rattle.word_cache.proofs.OrderLemmas.{Each, Each-get, Each-put, Each-by_use, Lacks, lookup-none}
use Rattle.word_cache.proofs.CountLemmas.{is_in_set, count-most, counted, set_count-places}

-- each place of a list is of another word than those behind it
abbrev Apart : List Place → Type 0
Apart [] = Unit {0}
Apart (p ∷ ps) = Each (λ (q : Place). AreOfOthers p.pair q.pair) ps × Apart ps

swapped : (a b : Option Pair) → AreOfOthers a b → AreOfOthers b a
swapped None None h = tt
swapped None (Some b) h = tt
swapped (Some a) None h = tt
swapped (Some a) (Some b) h = λ e. h (sym e)

Apart-put : (p : Place) (ps : List Place) → Each (λ (q : Place). AreOfOthers p.pair q.pair) ps → Apart ps → Apart (put_by_use p ps)
Apart-put p [] others apart = (tt, tt)
Apart-put p (q ∷ qs) others apart = by_test (nat_lt p.used q.used) (Apart-put p qs others.1 apart.1) where
  behind : Each (λ (r : Place). AreOfOthers q.pair r.pair) (put_by_use p qs)
  behind = Each-put (λ (r : Place). AreOfOthers q.pair r.pair) p qs (swapped p.pair q.pair others.0) apart.0

  by_test : (t : Bool) → Apart (put_by_use p qs) → Apart (cond t (p ∷ q ∷ qs) (q ∷ put_by_use p qs))
  by_test true rest = (others, apart)
  by_test false rest = (behind, rest)

Apart-by_use : (ps : List Place) → Apart ps → Apart (by_use ps)
Apart-by_use [] apart = tt
Apart-by_use (p ∷ ps) apart =
    Apart-put p (by_use ps) (Each-by_use (λ (q : Place). AreOfOthers p.pair q.pair) ps apart.0) (Apart-by_use ps apart.1)

Apart-row : (ps : List Place) → ((i j : ℕ) (d e : Place) → i < length ps → j < length ps → i ≢ j → AreOfOthers (get_or ps i d).pair (get_or ps j e).pair) → Apart ps
Apart-row [] all = tt
Apart-row (p ∷ ps) all = (
  Each-get (λ (q : Place). AreOfOthers p.pair q.pair) ps (λ i d below. all 0 (suc i) p d (omega arith) (omega (arith, below)) (omega arith)),
  Apart-row ps (λ i j d e first second other. all (suc i) (suc j) d e (omega (arith, first)) (omega (arith, second)) (omega (arith, other))),
)

not_of : (a : Pair) (o : Option Pair) → AreOfOthers (Some a) o → pair_is_of a.0.0 o ≡ false
not_of a None h = refl
not_of a (Some b) h = let other : b.0.0 ≢ a.0.0 = λ e. h (sym e) in grind (arith, nat_tests)

lacking : (a : Pair) (ps : List Place) → Each (λ (q : Place). AreOfOthers (Some a) q.pair) ps → Lacks a.0.0 ps
lacking a [] others = tt
lacking a (p ∷ ps) others = (not_of a p.pair others.0, lacking a ps others.1)

different-cons : (o : Option Pair) (ps : List Place) → Each (λ (q : Place). AreOfOthers o q.pair) ps → AreDifferent (pairs_of ps) → AreDifferent (cons_option o (pairs_of ps))
different-cons None ps others rest = rest
different-cons (Some a) ps others rest = (lookup-none a.0.0 ps (lacking a ps others), rest)

different : (ps : List Place) → Apart ps → AreDifferent (pairs_of ps)
different [] apart = tt
different (p ∷ ps) apart = different-cons p.pair ps apart.0 (different ps apart.1)

pub words_differ : (sets ways : ℕ) (row : List Place) → IsPlaceRow sets ways row → AreDifferent (pairs_by_use row)
words_differ sets ways row good = different (by_use row) (Apart-by_use row (Apart-row row good.words))

pub sets_fit : (sets ways w : ℕ) (row : List Place) → IsPlaceRow sets ways row → set_count sets w (pairs_by_use row) ≤ ways
sets_fit sets ways w row good =
    let whole = counted sets ways w row good in
    let most = count-most (is_in_set sets w) (take ways (drop (w % sets * ways) row)) in
    omega (arith, set_count-places sets w row, whole.0, most, length-take ways (drop (w % sets * ways) row))
