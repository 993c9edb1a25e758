-- The words of a cache, one by one: each has its entry, and a word that isn't one of them has none.
use Rattle.std.proofs.Common.{◌≡◌, ℕ, zero, suc, ◌+◌, ◌%◌, ◌<◌, ◌≤◌, ◌==◌, ◌||◌, Bool, true, false, cond, List, [], ◌∷◌, ◌++◌, map, Option, Some, None, refl, sym, ap, ◌∙◌, arith}
use Rattle.std.specs.List.{filter}
use Rattle.std.proofs.lemmas.Bool.Decides.{nat_tests}
use Rattle.std.proofs.lemmas.Nat.{mod_below}
use Rattle.std.proofs.lemmas.Option.{none-some}
use Rattle.word_cache.specs.declared.row.Entry.{Entry}
use Rattle.word_cache.specs.Cache.{Cache, Pair, in_set, lookup, AreDifferent}
use Rattle.registration_protocol.specs.Node.{NodeParts}
use Rattle.run_changes.specs.declared.look.EntryBefore.{EntryBefore}
use Rattle.run_changes.specs.Looks.{pair_before, cached_from, cached}
use Rattle.run_changes.specs.Applied.{AreEntriesOf, is_among}

abbrev pub EachPair : (Pair → Type 0) → List Pair → Type 0
EachPair P [] = Unit {0}
EachPair P (p ∷ ps) = P p × EachPair P ps

each-more : (P Q : Pair → Type 0) → ((p : Pair) → P p → Q p) → (ps : List Pair) → EachPair P ps → EachPair Q ps
each-more P Q more [] all = tt
each-more P Q more (p ∷ ps) all = (more p all.0, each-more P Q more ps all.1)

pub each-filter : (P : Pair → Type 0) (test : Pair → Bool) (ps : List Pair) → EachPair P ps → EachPair P (filter test ps)
each-filter P test [] all = tt
each-filter P test (p ∷ ps) all = by_test (test p) (each-filter P test ps all.1) where
  by_test : (t : Bool) → EachPair P (filter test ps) → EachPair P (cond t (p ∷ filter test ps) (filter test ps))
  by_test true rest = (all.0, rest)
  by_test false rest = rest

-- each pair's word has the pair's entry
unfoldable pub Owns : List Pair → Pair → Type 0
Owns all p = lookup p.0.0 all ≡ Some p.1

pub owned : (ps : List Pair) → AreDifferent ps → EachPair (Owns ps) ps
unfolding Owns
owned [] apart = tt
owned (p ∷ ps) apart = (first, each-more (Owns ps) (Owns (p ∷ ps)) later ps (owned ps apart.1)) where
  first : lookup p.0.0 (p ∷ ps) ≡ Some p.1
  first = let same : (p.0.0 == p.0.0) ≡ true = grind (arith, nat_tests) in rw (same) refl

  later : (q : Pair) → Owns ps q → Owns (p ∷ ps) q
  later q is = by_test (p.0.0 == q.0.0) refl where
    by_test : (t : Bool) → (p.0.0 == q.0.0) ≡ t → cond t (Some p.1) (lookup q.0.0 ps) ≡ Some q.1
    by_test false e = is
    by_test true e =
        let same : p.0.0 ≡ q.0.0 = grind (arith, nat_tests, e) in
        absurd (none-some q.1 (sym apart.0 ∙ ap (λ (w : ℕ). lookup w ps) same ∙ is))

entries-of-pairs : (n : NodeParts) (ps : List Pair) → EachPair (Owns n.cache.pairs) ps → AreEntriesOf n (map pair_before ps)
unfolding Owns
entries-of-pairs n [] all = tt
entries-of-pairs n (p ∷ ps) all = (sym all.0, entries-of-pairs n ps all.1)

entries-append : (n : NodeParts) (es fs : List EntryBefore) → AreEntriesOf n es → AreEntriesOf n fs → AreEntriesOf n (es ++ fs)
entries-append n [] fs a b = b
entries-append n (e ∷ es) fs a b = (a.0, entries-append n es fs a.1 b)

entries-from : (n : NodeParts) (set count : ℕ) → EachPair (Owns n.cache.pairs) n.cache.pairs → AreEntriesOf n (cached_from n.cache set count)
entries-from n set zero all = tt
entries-from n set (suc count) all =
    entries-append n (map pair_before (filter (in_set n.cache.sets set) n.cache.pairs)) (cached_from n.cache (set + 1) count)
    (entries-of-pairs n (filter (in_set n.cache.sets set) n.cache.pairs) (each-filter (Owns n.cache.pairs) (in_set n.cache.sets set) n.cache.pairs all))
    (entries-from n (set + 1) count all)

pub cached-entries : (n : NodeParts) → AreDifferent n.cache.pairs → AreEntriesOf n (cached n.cache)
cached-entries n apart = entries-from n 0 n.cache.sets (owned n.cache.pairs apart)

-- ---- a word that has an entry is one of them

among-behind : (w : ℕ) (es fs : List EntryBefore) → is_among w fs ≡ true → is_among w (es ++ fs) ≡ true
among-behind w [] fs is = is
among-behind w (e ∷ es) fs is = by_test (e.word.0 == w) (among-behind w es fs is) where
  by_test : (t : Bool) → is_among w (es ++ fs) ≡ true → (t || is_among w (es ++ fs)) ≡ true
  by_test true rest = refl
  by_test false rest = rest

among-before : (w : ℕ) (es fs : List EntryBefore) → is_among w es ≡ true → is_among w (es ++ fs) ≡ true
among-before w (e ∷ es) fs is = by_test (e.word.0 == w) is (among-before w es fs) where
  by_test : (t : Bool) → (t || is_among w es) ≡ true → (is_among w es ≡ true → is_among w (es ++ fs) ≡ true) → (t || is_among w (es ++ fs)) ≡ true
  by_test true is rest = refl
  by_test false is rest = rest is
among-before w [] fs is = cc

in-own-set : (sets w : ℕ) (ps : List Pair) (e : Entry) → lookup w ps ≡ Some e → is_among w (map pair_before (filter (in_set sets (w % sets)) ps)) ≡ true
in-own-set sets w [] e is = absurd (none-some e is)
in-own-set sets w (p ∷ ps) e is = by_test (p.0.0 == w) refl is (in-own-set sets w ps e) where
  kept : List EntryBefore
  kept = map pair_before (filter (in_set sets (w % sets)) ps)

  by_set : (s : Bool) → is_among w (map pair_before (filter (in_set sets (w % sets)) ps)) ≡ true → is_among w (map pair_before (cond s (p ∷ filter (in_set sets (w % sets)) ps) (filter (in_set sets (w % sets)) ps))) ≡ true
  by_set true rest = either (p.0.0 == w) rest where
    either : (t : Bool) → is_among w (map pair_before (filter (in_set sets (w % sets)) ps)) ≡ true → (t || is_among w (map pair_before (filter (in_set sets (w % sets)) ps))) ≡ true
    either true rest = refl
    either false rest = rest
  by_set false rest = rest

  by_test : (t : Bool) → (p.0.0 == w) ≡ t → cond t (Some p.1) (lookup w ps) ≡ Some e
      → (lookup w ps ≡ Some e → is_among w (map pair_before (filter (in_set sets (w % sets)) ps)) ≡ true)
      → is_among w (map pair_before (cond (p.0.0 % sets == w % sets) (p ∷ filter (in_set sets (w % sets)) ps) (filter (in_set sets (w % sets)) ps))) ≡ true
  by_test false d is rest = by_set (p.0.0 % sets == w % sets) (rest is)
  by_test true d is rest =
      let same : p.0.0 ≡ w = grind (arith, nat_tests, d) in
      let here : (p.0.0 % sets == w % sets) ≡ true = rw (same) (equal (w % sets)) in
      rw (here, d) refl
    where
      equal : (k : ℕ) → (k == k) ≡ true
      equal k = grind (arith, nat_tests)

among-from : (c : Cache) (w set count : ℕ) (e : Entry) → lookup w c.pairs ≡ Some e → set ≤ w % c.sets → w % c.sets < set + count → is_among w (cached_from c set count) ≡ true
among-from c w set zero e is from within = absurd (omega (arith, from, within))
among-from c w set (suc count) e is from within = by_test (set == w % c.sets) refl (λ more. among-from c w (set + 1) count e is more (omega (arith, within))) where
  by_test : (t : Bool) → (set == w % c.sets) ≡ t → (set + 1 ≤ w % c.sets → is_among w (cached_from c (set + 1) count) ≡ true)
      → is_among w (map pair_before (filter (in_set c.sets set) c.pairs) ++ cached_from c (set + 1) count) ≡ true
  by_test true d rest =
      let same : w % c.sets ≡ set = grind (arith, nat_tests, d) in
      among-before w (map pair_before (filter (in_set c.sets set) c.pairs)) (cached_from c (set + 1) count) (rw (same) at (in-own-set c.sets w c.pairs e is))
  by_test false d rest =
      let more : set + 1 ≤ w % c.sets = grind (arith, nat_tests, from, d) in
      among-behind w (map pair_before (filter (in_set c.sets set) c.pairs)) (cached_from c (set + 1) count) (rest more)

pub cached-others : (c : Cache) (w : ℕ) → 0 < c.sets → is_among w (cached c) ≡ false → lookup w c.pairs ≡ None
cached-others c w some out = by_entry (lookup w c.pairs) refl where
  by_entry : (o : Option Entry) → lookup w c.pairs ≡ o → o ≡ None
  by_entry None e = refl
  by_entry (Some f) e = absurd (apart (is_among w (cached c)) out (among-from c w 0 c.sets f e (omega arith) (omega (arith, mod_below w c.sets some)))) where
    apart : (b : Bool) → b ≡ false → b ≡ true → ⊥
    apart b out among = cc
