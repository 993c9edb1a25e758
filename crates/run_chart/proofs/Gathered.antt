-- How the words that an event affects are gathered: from the places of a cache, set by set, and then in their order.
use Rattle.std.proofs.Common.{◌≡◌, ◌⊎◌, inl, inr, ℕ, ◌+◌, ◌%◌, ◌<◌, ◌≤◌, ◌==◌, ◌||◌, Bool, true, false, cond, nat_lt, List, [], ◌∷◌, ◌++◌, length, drop, get_or, slice_get, Option, Some, None, refl, sym, ap, subst, ◌∙◌, arith}
use Rattle.std.specs.List.{Contains, filter, list_any}
use Rattle.std.specs.Option.{is_some}
use Rattle.std.proofs.lemmas.Bool.{eqb-true}
use Rattle.std.proofs.lemmas.Bool.Decides.{nat_tests}
use Rattle.std.proofs.lemmas.List.{at_drop_more, drop_all}
use Rattle.std.proofs.lemmas.List.Elements.{Contains-append_left, Contains-push, Contains-push_cases}
use Rattle.std.proofs.lemmas.Nat.{mod_below}
use Rattle.std.proofs.lemmas.Option.{slice_get_past}
use Rattle.std.specs.List.Sorted.{IsStrictlyIncreasing}
use Rattle.word_cache.specs.declared.row.Place.{Place}
use Rattle.word_cache.specs.Cache.{Pair, is_of, in_set, lookup}
use Rattle.word_cache.specs.Row.{has_word, put_by_use, by_use, pairs_of, pairs_by_use}
use Rattle.region_table.specs.Program.{ProgramParts}
use Rattle.registration_protocol.specs.Node.{NodeParts, entry_of}
use Rattle.machine_rules.specs.State.{State, entry_in, entry_at}
use Rattle.run_chart.specs.Affected.{AreAdded, AreGathered}

-- ---- one word more, or none

pub nothing-added : (end : ℕ) (test : ℕ → Bool) (words : List ℕ) → ((w : ℕ) → w < end → test w ≡ false) → AreAdded end test words words
nothing-added end test words none =
    record {
      kept = λ w there. there;
      added = λ w within passes. absurd (never (test w) passes (none w within));
      below = λ all. all;
    }
  where
    never : (b : Bool) → b ≡ true → b ≡ false → ⊥
    never b passes fails = cc

pub word-added : (end word : ℕ) (words : List ℕ) → word < end → AreAdded end (λ w. word == w) words (words ++ word ∷ [])
word-added end word words within =
    record {
      kept = λ w there. Contains-append_left words (word ∷ []) w there;
      added = λ w less same. subst (λ (x : ℕ). Contains (words ++ word ∷ []) x) (eqb-true word w same) (Contains-push words word);
      below = λ all w there. by_case all w (Contains-push_cases words word w there);
    }
  where
    by_case : ((w : ℕ) → Contains words w → w < end) → (w : ℕ) → Contains words w ⊎ (word ≡ w) → w < end
    by_case all w (inl there) = all w there
    by_case all w (inr same) = subst (λ (x : ℕ). x < end) same within

pub word-past : (end word : ℕ) (words : List ℕ) → end ≤ word → AreAdded end (λ w. word == w) words words
word-past end word words past = nothing-added end (λ w. word == w) words (λ w within. grind (arith, nat_tests, within, past))

-- ---- the places of a set

-- what is still to come of some places: every word of the first ones is there, or it stands at a place from number i on
pub record ArePlacesAdded (end : ℕ) (places : List Place) (i : ℕ) (before after : List ℕ) : Type 0 where
  pub kept : (w : ℕ) → Contains before w → Contains after w
  pub left : (w : ℕ) → w < end → list_any (has_word w) places ≡ true → Contains after w ⊎ (list_any (has_word w) (drop i places) ≡ true)
  pub below : ((w : ℕ) → Contains before w → w < end) → (w : ℕ) → Contains after w → w < end

pub no-places-added : (end : ℕ) (places : List Place) (words : List ℕ) → ArePlacesAdded end places 0 words words
no-places-added end places words =
    record { kept = λ w there. there; left = λ w within has. inr has; below = λ all. all }

pub place-added : (end : ℕ) (places : List Place) (i : ℕ) (other : Place) (before after more : List ℕ) → i < length places → ArePlacesAdded end places i before after
    → AreAdded end (λ w. has_word w (get_or places i other)) after more → ArePlacesAdded end places (i + 1) before more
place-added end places i other before after more within so_far one =
    record {
      kept = λ w there. one.kept w (so_far.kept w there);
      left = λ w less has. by_case w less (so_far.left w less has);
      below = λ all. one.below (so_far.below all);
    }
  where
    by_test : (w : ℕ) → w < end → (b c : Bool) → has_word w (get_or places i other) ≡ b → list_any (has_word w) (drop (i + 1) places) ≡ c → (b || c) ≡ true
        → Contains more w ⊎ (list_any (has_word w) (drop (i + 1) places) ≡ true)
    by_test w less true c here later either = inl (one.added w less here)
    by_test w less false true here later either = inr later
    by_test w less false false here later either = absurd (cc)

    by_case : (w : ℕ) → w < end → Contains after w ⊎ (list_any (has_word w) (drop i places) ≡ true) → Contains more w ⊎ (list_any (has_word w) (drop (i + 1) places) ≡ true)
    by_case w less (inl there) = inl (one.kept w there)
    by_case w less (inr has) =
        let on : list_any (has_word w) (drop i places) ≡ (has_word w (get_or places i other) || list_any (has_word w) (drop (i + 1) places)) =
        at_drop_more (λ (l : List Place). list_any (has_word w) l) places i other within
        in
        by_test w less (has_word w (get_or places i other)) (list_any (has_word w) (drop (i + 1) places)) refl refl (sym on ∙ has)

pub places-added : (end : ℕ) (places : List Place) (i : ℕ) (before after : List ℕ) → length places ≤ i → ArePlacesAdded end places i before after
    → AreAdded end (λ w. list_any (has_word w) places) before after
places-added end places i before after done so_far =
    record {
      kept = so_far.kept;
      added = λ w less has. by_case w (so_far.left w less has);
      below = so_far.below;
    }
  where
    by_case : (w : ℕ) → Contains after w ⊎ (list_any (has_word w) (drop i places) ≡ true) → Contains after w
    by_case w (inl there) = there
    by_case w (inr has) =
        let never : false ≡ true = rw (drop_all i places done) at has in
        absurd (cc)

-- ---- the sets of a cache

or-swap : (a b c : Bool) → (a || (b || c)) ≡ (b || (a || c))
or-swap true true c = refl
or-swap true false c = refl
or-swap false true c = refl
or-swap false false c = refl

-- whether some place has the word, in whatever order they are
any-put : (w : ℕ) (p : Place) (ps : List Place) → list_any (has_word w) (put_by_use p ps) ≡ (has_word w p || list_any (has_word w) ps)
any-put w p [] = refl
any-put w p (q ∷ qs) = by_test (nat_lt p.used q.used) (any-put w p qs) where
  by_test : (t : Bool) → list_any (has_word w) (put_by_use p qs) ≡ (has_word w p || list_any (has_word w) qs)
      → list_any (has_word w) (cond t (p ∷ q ∷ qs) (q ∷ put_by_use p qs)) ≡ (has_word w p || (has_word w q || list_any (has_word w) qs))
  by_test true rest = refl
  by_test false rest =
      ap (λ (b : Bool). has_word w q || b) rest ∙ or-swap (has_word w q) (has_word w p) (list_any (has_word w) qs)

any-by_use : (w : ℕ) (ps : List Place) → list_any (has_word w) (by_use ps) ≡ list_any (has_word w) ps
any-by_use w [] = refl
any-by_use w (p ∷ ps) = any-put w p (by_use ps) ∙ ap (λ (b : Bool). has_word w p || b) (any-by_use w ps)

-- whether there is a pair of the word, by the word's entry and by the places of the pairs
any-lookup : (w : ℕ) (ps : List Pair) → is_some (lookup w ps) ≡ list_any (is_of w) ps
any-lookup w [] = refl
any-lookup w (p ∷ ps) = by_test (is_of w p) (any-lookup w ps) where
  by_test : (t : Bool) → is_some (lookup w ps) ≡ list_any (is_of w) ps → is_some (cond t (Some p.1) (lookup w ps)) ≡ (t || list_any (is_of w) ps)
  by_test true rest = refl
  by_test false rest = rest

any-pairs : (w : ℕ) (ps : List Place) → list_any (is_of w) (pairs_of ps) ≡ list_any (has_word w) ps
any-pairs w [] = refl
any-pairs w (p ∷ ps) = by_pair p.pair refl (any-pairs w ps) where
  by_pair : (o : Option Pair) → p.pair ≡ o → list_any (is_of w) (pairs_of ps) ≡ list_any (has_word w) ps → list_any (is_of w) (pairs_of (p ∷ ps)) ≡ list_any (has_word w) (p ∷ ps)
  by_pair None is rest = rw is rest
  by_pair (Some q) is rest = rw is (ap (λ (b : Bool). is_of w q || b) rest)

-- the pair of a word is in the word's set
any-in_set : (sets set w : ℕ) (ps : List Pair) → w % sets ≡ set → list_any (is_of w) (filter (in_set sets set) ps) ≡ list_any (is_of w) ps
any-in_set sets set w [] own = refl
any-in_set sets set w (p ∷ ps) own = by_test (is_of w p) refl (any-in_set sets set w ps own) where
  by_test : (t : Bool) → is_of w p ≡ t → list_any (is_of w) (filter (in_set sets set) ps) ≡ list_any (is_of w) ps
      → list_any (is_of w) (filter (in_set sets set) (p ∷ ps)) ≡ list_any (is_of w) (p ∷ ps)
  by_test true e rest =
      let same : p.0.0 ≡ w = eqb-true p.0.0 w e in
      let inside : in_set sets set p ≡ true = rw (same, own) (grind (arith, nat_tests)) in
      rw inside (rw e refl)
  by_test false e rest = by_set (in_set sets set p) refl where
    by_set : (s : Bool) → in_set sets set p ≡ s → list_any (is_of w) (filter (in_set sets set) (p ∷ ps)) ≡ list_any (is_of w) (p ∷ ps)
    by_set true inside = rw inside (rw e rest)
    by_set false outside = rw outside (rw e rest)

-- a word that has an entry stands at a place of its set
pub entry-placed : (sets set w : ℕ) (places : List Place) (ps : List Pair) → pairs_by_use places ≡ filter (in_set sets set) ps → w % sets ≡ set → is_some (lookup w ps) ≡ true
    → list_any (has_word w) places ≡ true
entry-placed sets set w places ps are own has =
    sym (any-by_use w places)
    ∙ sym (any-pairs w (by_use places))
    ∙ ap (λ (qs : List Pair). list_any (is_of w) qs) are
    ∙ any-in_set sets set w ps own
    ∙ sym (any-lookup w ps)
    ∙ has

-- what is still to come of a cache: every word of the first sets is there
pub record AreSetsAdded (end sets : ℕ) (ps : List Pair) (set : ℕ) (before after : List ℕ) : Type 0 where
  pub kept : (w : ℕ) → Contains before w → Contains after w
  pub left : (w : ℕ) → w < end → is_some (lookup w ps) ≡ true → Contains after w ⊎ (set ≤ w % sets)
  pub below : ((w : ℕ) → Contains before w → w < end) → (w : ℕ) → Contains after w → w < end

pub no-sets-added : (end sets : ℕ) (ps : List Pair) (words : List ℕ) → AreSetsAdded end sets ps 0 words words
no-sets-added end sets ps words =
    record { kept = λ w there. there; left = λ w within has. inr (omega arith); below = λ all. all }

pub set-added : (end sets set : ℕ) (ps : List Pair) (places : List Place) (before after more : List ℕ) → pairs_by_use places ≡ filter (in_set sets set) ps → AreSetsAdded end sets ps set before after
    → AreAdded end (λ w. list_any (has_word w) places) after more → AreSetsAdded end sets ps (set + 1) before more
set-added end sets set ps places before after more are so_far one =
    record {
      kept = λ w there. one.kept w (so_far.kept w there);
      left = λ w less has. by_case w less has (so_far.left w less has);
      below = λ all. one.below (so_far.below all);
    }
  where
    by_test : (w : ℕ) → w < end → is_some (lookup w ps) ≡ true → set ≤ w % sets → (t : Bool) → (w % sets == set) ≡ t → Contains more w ⊎ (set + 1 ≤ w % sets)
    by_test w less has from true e = inl (one.added w less (entry-placed sets set w places ps are (eqb-true (w % sets) set e) has))
    by_test w less has from false e = inr (grind (arith, nat_tests, from))

    by_case : (w : ℕ) → w < end → is_some (lookup w ps) ≡ true → Contains after w ⊎ (set ≤ w % sets) → Contains more w ⊎ (set + 1 ≤ w % sets)
    by_case w less has (inl there) = inl (one.kept w there)
    by_case w less has (inr from) = by_test w less has from (w % sets == set) refl

pub sets-added : (end sets set : ℕ) (ps : List Pair) (before after : List ℕ) → 0 < sets → sets ≤ set → AreSetsAdded end sets ps set before after
    → AreAdded end (λ w. is_some (lookup w ps)) before after
sets-added end sets set ps before after some done so_far =
    record {
      kept = so_far.kept;
      added = λ w less has. by_case w (so_far.left w less has);
      below = so_far.below;
    }
  where
    by_case : (w : ℕ) → Contains after w ⊎ (set ≤ w % sets) → Contains after w
    by_case w (inl there) = there
    by_case w (inr from) = absurd (omega (arith, from, done, mod_below w sets some))

-- ---- of a core of a machine, and in their order

pub entries-of : (S : State) (P : ProgramParts) (n : NodeParts) (core : ℕ) (before after : List ℕ) → P ≡ S.setting.program → slice_get S.nodes core ≡ Some n
    → AreAdded (length P.memory) (λ w. is_some (entry_of n w)) before after → AreAdded (length S.setting.program.memory) (λ w. is_some (entry_at S core w)) before after
entries-of S P n core before after same found all =
    subst (λ (Q : ProgramParts). AreAdded (length Q.memory) (λ w. is_some (entry_at S core w)) before after) same
    (record { kept = all.kept; added = λ w less has. all.added w less (ap (λ (o : Option NodeParts). is_some (entry_in w o)) (sym found) ∙ has); below = all.below })

pub no-entries : (S : State) (end core : ℕ) (words : List ℕ) → length S.nodes ≤ core → AreAdded end (λ w. is_some (entry_at S core w)) words words
no-entries S end core words past =
    nothing-added end (λ w. is_some (entry_at S core w)) words (λ w less. ap (λ (o : Option NodeParts). is_some (entry_in w o)) (slice_get_past S.nodes core past))

never-in-none : (w : ℕ) → Contains [] w → ⊥
never-in-none w (k, within, is) = omega (arith, within)

pub in-order : (end : ℕ) (test : ℕ → Bool) (words sorted : List ℕ) → AreAdded end test [] words → IsStrictlyIncreasing sorted → ((w : ℕ) → Contains words w → Contains sorted w)
    → ((w : ℕ) → Contains sorted w → Contains words w) → AreGathered end test sorted
in-order end test words sorted all rise kept none_more =
    record {
      rise = rise;
      all = λ w less passes. kept w (all.added w less passes);
      below = λ w there. all.below (λ v none. absurd (never-in-none v none)) w (none_more w there);
    }
