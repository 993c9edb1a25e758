-- Which lines sets, caches and lists have, before and after a step.
use Rattle.std.proofs.Common.{◌≡◌, ◌≢◌, ◌⊎◌, inl, inr, ℕ, zero, suc, ◌+◌, ◌%◌, ◌<◌, ◌≤◌, Bool, true, false, cond, nat_lt, length, get_or, set, drop, map, List, [], ◌∷◌, ◌++◌, Some, refl, sym, ap, ◌∙◌, arith, length-set}
use Rattle.std.specs.Prelude.{◌==◌, not}
use Rattle.std.specs.List.{enumerate_from}
use Rattle.std.proofs.lemmas.Bool.Decides.{nat_tests}
use Rattle.std.proofs.lemmas.List.{get_or-set_same, get_or-set_other, get_or_past, set_past}
use Rattle.dn_base.specs.declared.ids.WordId.{WordId}
use Rattle.run_account.specs.declared.access.CountedAccess.{CountedAccess}
use Rattle.run_account.specs.declared.cache.Line.{Line}
use Rattle.run_account.specs.declared.cache.Share.{Share}
use Rattle.run_account.specs.declared.cache.Share.TheVariants.{Shared, Owned}
use Rattle.run_account.specs.Caches.{is_line_of, share_in, without_word, as_shared, most_recent, with_room, SharerCache, set_of, word_set_changed}
use Rattle.run_account.specs.Lists.{SharerLists, cache_of, at_set, told_set, told_cache, telling}

-- ---- sets

-- a set has a line of the word with this share
pub data Has (w : ℕ) (s : Share) : List Line → Type 0 where
  first : (line : Line) (lines : List Line) → line.word.0 ≡ w → line.share ≡ s → Has w s (line ∷ lines)
  later : (line : Line) (lines : List Line) → Has w s lines → Has w s (line ∷ lines)

pub has-none : (w : ℕ) (s : Share) → Has w s [] → ⊥
has-none w s has = elim has [ ]

pub has-append : (w : ℕ) (s : Share) (lines : List Line) (line : Line) → Has w s (lines ++ line ∷ []) → Has w s lines ⊎ ((line.word.0 ≡ w) × (line.share ≡ s))
has-append w s [] line (first _ _ word share) = inr (word, share)
has-append w s [] line (later _ _ has) = absurd (has-none w s has)
has-append w s (l ∷ lines) line (first _ _ word share) = inl (first l lines word share)
has-append w s (l ∷ lines) line (later _ _ has) = by_rest (has-append w s lines line has) where
  by_rest : Has w s lines ⊎ ((line.word.0 ≡ w) × (line.share ≡ s)) → Has w s (l ∷ lines) ⊎ ((line.word.0 ≡ w) × (line.share ≡ s))
  by_rest (inl before) = inl (later l lines before)
  by_rest (inr new) = inr new

pub has-without : (w v : ℕ) (s : Share) (lines : List Line) → Has w s (without_word v lines) → Has w s lines × (w ≢ v)
has-without w v s [] has = absurd (has-none w s has)
has-without w v s (line ∷ lines) has = by_test (is_line_of v line) refl (λ more. let before = has-without w v s lines more in (later line lines before.0, before.1)) has where
  by_test : (t : Bool) → is_line_of v line ≡ t → (Has w s (without_word v lines) → Has w s (line ∷ lines) × (w ≢ v))
      → Has w s (cond (not t) (line ∷ without_word v lines) (without_word v lines)) → Has w s (line ∷ lines) × (w ≢ v)
  by_test true e on more = on more
  by_test false e on (first _ _ word share) = (first line lines word share, λ same. absurd (grind (arith, nat_tests, e, word, same)))
  by_test false e on (later _ _ more) = on more

pub has-shared : (w v : ℕ) (s : Share) (lines : List Line) → Has w s (map (as_shared v) lines) → ((t : Share) × Has w t lines × (s ≡ Owned → t ≡ Owned)) × (w ≡ v → s ≡ Shared)
has-shared w v s [] has = absurd (has-none w s has)
has-shared w v s (line ∷ lines) has =
    by_test (is_line_of v line) refl (λ more. let before = has-shared w v s lines more in ((before.0.0, later line lines before.0.1, before.0.2), before.1)) has
  where
    not-owned : Shared ≡ s → s ≡ Owned → line.share ≡ Owned
    not-owned a b = absurd (cc)

    by_test : (t : Bool) → is_line_of v line ≡ t → (Has w s (map (as_shared v) lines) → ((t : Share) × Has w t (line ∷ lines) × (s ≡ Owned → t ≡ Owned)) × (w ≡ v → s ≡ Shared))
        → Has w s (cond t (record line { share = Shared }) line ∷ map (as_shared v) lines)
        → ((t : Share) × Has w t (line ∷ lines) × (s ≡ Owned → t ≡ Owned)) × (w ≡ v → s ≡ Shared)
    by_test true e on (first _ _ word share) = ((line.share, first line lines word refl, not-owned share), λ same. sym share)
    by_test true e on (later _ _ more) = on more
    by_test false e on (first _ _ word share) = ((line.share, first line lines word refl, λ owned. share ∙ owned), λ same. absurd (grind (arith, nat_tests, e, word, same)))
    by_test false e on (later _ _ more) = on more

pub has-room : (w : ℕ) (s : Share) (ways : ℕ) (lines : List Line) → Has w s (with_room ways lines) → Has w s lines
has-room w s ways [] has = by_test (nat_lt 0 ways) has where
  by_test : (t : Bool) → Has w s (cond t [] (drop 1 [])) → Has w s []
  by_test true has = has
  by_test false has = has
has-room w s ways (line ∷ lines) has = by_test (nat_lt (length (line ∷ lines)) ways) has where
  by_test : (t : Bool) → Has w s (cond t (line ∷ lines) lines) → Has w s (line ∷ lines)
  by_test true has = has
  by_test false has = later line lines has

pub has-used : (w : ℕ) (s share : Share) (word : WordId) (lines : List Line) → Has w s (most_recent word share lines) → Has w s lines ⊎ ((word.0 ≡ w) × (share ≡ s))
has-used w s share word lines has = by_end (has-append w s (without_word word.0 lines) (record { word = word; share = share }) has) where
  by_end : Has w s (without_word word.0 lines) ⊎ ((word.0 ≡ w) × (share ≡ s)) → Has w s lines ⊎ ((word.0 ≡ w) × (share ≡ s))
  by_end (inl before) = inl (has-without w word.0 s lines before).0
  by_end (inr new) = inr new

pub share-has : (w : ℕ) (s : Share) (lines : List Line) → share_in w lines ≡ Some s → Has w s lines
share-has w s [] e = absurd (cc)
share-has w s (line ∷ lines) e = by_test (is_line_of w line) refl (share-has w s lines) e where
  by_test : (t : Bool) → is_line_of w line ≡ t → (share_in w lines ≡ Some s → Has w s lines) → cond t (Some line.share) (share_in w lines) ≡ Some s → Has w s (line ∷ lines)
  by_test true is on e = let share : line.share ≡ s = cc in first line lines (grind (arith, nat_tests, is)) share
  by_test false is on e = later line lines (on e)

-- a set that has the word is longer without it
pub without-shorter : (w : ℕ) (lines : List Line) → length (without_word w lines) ≤ length lines
without-shorter w [] = omega arith
without-shorter w (line ∷ lines) = by_test (is_line_of w line) (without-shorter w lines) where
  by_test : (t : Bool) → length (without_word w lines) ≤ length lines → length (cond (not t) (line ∷ without_word w lines) (without_word w lines)) ≤ length (line ∷ lines)
  by_test true on = omega (arith, on)
  by_test false on = omega (arith, on)

pub without-less : (w : ℕ) (s : Share) (lines : List Line) → share_in w lines ≡ Some s → length (without_word w lines) < length lines
without-less w s [] e = absurd (cc)
without-less w s (line ∷ lines) e = by_test (is_line_of w line) (without-less w s lines) e where
  by_test : (t : Bool) → (share_in w lines ≡ Some s → length (without_word w lines) < length lines) → cond t (Some line.share) (share_in w lines) ≡ Some s → length (cond (not t) (line ∷ without_word w lines) (without_word w lines)) < length (line ∷ lines)
  by_test true on e = omega (arith, without-shorter w lines)
  by_test false on e = omega (arith, on e)

-- ---- caches

-- the sets of a cache after a change of the word's set
pub set-same : (cache : SharerCache) (w : ℕ) (f : List Line → List Line) → f [] ≡ [] → set_of (word_set_changed cache w f) w ≡ f (set_of cache w)
set-same cache w f empty =
    rw (length-set cache (w % length cache) (f (set_of cache w))) (by_test (nat_lt (w % length cache) (length cache)) refl)
  where
    by_test : (t : Bool) → nat_lt (w % length cache) (length cache) ≡ t → get_or (set cache (w % length cache) (f (set_of cache w))) (w % length cache) [] ≡ f (set_of cache w)
    by_test true e = get_or-set_same cache (w % length cache) (f (set_of cache w)) [] (grind (arith, nat_tests, e))
    by_test false e =
        let past : length cache ≤ w % length cache = grind (arith, nat_tests, e) in
        ap (λ (k : SharerCache). get_or k (w % length cache) []) (set_past cache (w % length cache) (f (set_of cache w)) past)
        ∙ get_or_past cache (w % length cache) [] past ∙ sym empty ∙ ap f (sym (get_or_past cache (w % length cache) [] past))

-- each set stays, or is the word's set, changed
pub set-any : (cache : SharerCache) (w k : ℕ) (f : List Line → List Line)
    → (get_or (word_set_changed cache w f) k [] ≡ get_or cache k []) ⊎ ((k ≡ w % length cache) × (get_or (word_set_changed cache w f) k [] ≡ f (set_of cache w)))
set-any cache w k f = by_test (k == w % length cache) refl (nat_lt (w % length cache) (length cache)) refl where
  by_test : (t : Bool) → (k == w % length cache) ≡ t → (u : Bool) → nat_lt (w % length cache) (length cache) ≡ u
      → (get_or (word_set_changed cache w f) k [] ≡ get_or cache k []) ⊎ ((k ≡ w % length cache) × (get_or (word_set_changed cache w f) k [] ≡ f (set_of cache w)))
  by_test true e true inside =
      let same : k ≡ w % length cache = grind (arith, nat_tests, e) in
      let within : w % length cache < length cache = grind (arith, nat_tests, inside) in
      inr (same, ap (λ (i : ℕ). get_or (word_set_changed cache w f) i []) same ∙ get_or-set_same cache (w % length cache) (f (set_of cache w)) [] within)
  by_test true e false inside =
      let past : length cache ≤ w % length cache = grind (arith, nat_tests, inside) in
      inl (ap (λ (k2 : SharerCache). get_or k2 k []) (set_past cache (w % length cache) (f (set_of cache w)) past))
  by_test false e u inside =
      let other : k ≢ w % length cache = grind (arith, nat_tests, e) in
      inl (get_or-set_other cache (w % length cache) k (f (set_of cache w)) [] other)

-- ---- the caches of all cores

pub cache-same : (L : SharerLists) (c w : ℕ) (f : List Line → List Line) → cache_of (at_set L c w f) c ≡ word_set_changed (cache_of L c) w f
cache-same L c w f = by_test (nat_lt c (length L.caches)) refl where
  by_test : (t : Bool) → nat_lt c (length L.caches) ≡ t → get_or (set L.caches c (word_set_changed (cache_of L c) w f)) c [] ≡ word_set_changed (cache_of L c) w f
  by_test true e = get_or-set_same L.caches c (word_set_changed (cache_of L c) w f) [] (grind (arith, nat_tests, e))
  by_test false e =
      let past : length L.caches ≤ c = grind (arith, nat_tests, e) in
      let none : cache_of L c ≡ [] = get_or_past L.caches c [] past in
      ap (λ (ks : List SharerCache). get_or ks c []) (set_past L.caches c (word_set_changed (cache_of L c) w f) past) ∙ none ∙ sym (rw none refl)

pub cache-other : (L : SharerLists) (c d w : ℕ) (f : List Line → List Line) → d ≢ c → cache_of (at_set L c w f) d ≡ cache_of L d
cache-other L c d w f other = get_or-set_other L.caches c d (word_set_changed (cache_of L c) w f) [] other

-- what each core is told
told-nothing : (a : CountedAccess) (d : ℕ) → told_cache a (d, []) ≡ []
told-nothing a d = by_test (d == a.core.0) where
  by_test : (t : Bool) → cond t [] (word_set_changed [] a.word.0 (told_set a.kind a.word.0)) ≡ []
  by_test true = refl
  by_test false = refl

told-at : (a : CountedAccess) (caches : List SharerCache) (k d : ℕ) → get_or (map (told_cache a) (enumerate_from k caches)) d [] ≡ told_cache a (k + d, get_or caches d [])
told-at a [] k d = sym (told-nothing a (k + d))
told-at a (cache ∷ caches) k zero = let same : k + 0 ≡ k = omega arith in rw same refl
told-at a (cache ∷ caches) k (suc d) =
    let same : k + 1 + d ≡ k + suc d = omega arith in
    told-at a caches (k + 1) d ∙ ap (λ (i : ℕ). told_cache a (i, get_or caches d [])) same

pub cache-told : (L : SharerLists) (a : CountedAccess) (d : ℕ) → cache_of (telling L a) d ≡ told_cache a (d, cache_of L d)
cache-told L a d = let same : 0 + d ≡ d = omega arith in told-at a L.caches 0 d ∙ ap (λ (i : ℕ). told_cache a (i, cache_of L d)) same
