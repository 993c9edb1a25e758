-- What holds of each set of the lists.
use Rattle.std.proofs.Common.{◌≡◌, ◌≢◌, ◌⊎◌, inl, inr, ℕ, ◌%◌, ◌<◌, Bool, true, false, cond, nat_lt, length, get_or, drop, map, slice_get, List, [], ◌∷◌, ◌++◌, Option, Some, None, refl, sym, subst, arith}
use Rattle.std.specs.Prelude.{◌==◌, not}
use Rattle.std.proofs.lemmas.Bool.Decides.{nat_tests}
use Rattle.dn_base.specs.declared.ids.Shape.{Shape}
use Rattle.dn_base.specs.declared.ids.WordId.{WordId}
use Rattle.run_account.specs.declared.access.AccessKind.{AccessKind}
use Rattle.run_account.specs.declared.access.AccessKind.TheVariants.{Load, Store}
use Rattle.run_account.specs.declared.access.CountedAccess.{CountedAccess}
use Rattle.run_account.specs.declared.cache.Line.{Line}
use Rattle.run_account.specs.declared.cache.Share.{Share}
use Rattle.run_account.specs.declared.cache.Share.TheVariants.{Shared}
use Rattle.run_account.specs.Caches.{SharerCache, is_line_of, without_word, as_shared, set_of, most_recent, with_room, word_set_changed}
use Rattle.run_account.specs.Lists.{SharerLists, no_lists, cache_of, share_of, at_set, is_hit, gained, with_place, told_set, telling, having, lists_by, lists_after}
use Rattle.run_account.specs.Counts.{goes_for}
use Rattle.run_account.proofs.Has.{set-any, cache-same, cache-other, cache-told}
use Rattle.run_account.proofs.Alone.{none-set}

module _ (Q : List Line → Type 0) where
  -- it holds of each set of each core
  abbrev pub AllSets : SharerLists → Type 0
  AllSets L = (c k : ℕ) → Q (get_or (cache_of L c) k [])

  -- one set of a core is changed
  pub sets-at : (L : SharerLists) (c v : ℕ) (f : List Line → List Line) → AllSets L → Q (f (set_of (cache_of L c) v)) → AllSets (at_set L c v f)
  sets-at L c v f all holds d k = by_core (d == c) refl where
    by_core : (t : Bool) → (d == c) ≡ t → Q (get_or (cache_of (at_set L c v f) d) k [])
    by_core true e =
        let same : d ≡ c = grind (arith, nat_tests, e) in
        subst (λ (i : ℕ). Q (get_or (cache_of (at_set L c v f) i) k [])) (sym same)
        (subst (λ (cache : SharerCache). Q (get_or cache k [])) (sym (cache-same L c v f)) (by_set (set-any (cache_of L c) v k f)))
      where
        by_set : (get_or (word_set_changed (cache_of L c) v f) k [] ≡ get_or (cache_of L c) k []) ⊎ ((k ≡ v % length (cache_of L c)) × (get_or (word_set_changed (cache_of L c) v f) k [] ≡ f (set_of (cache_of L c) v)))
            → Q (get_or (word_set_changed (cache_of L c) v f) k [])
        by_set (inl kept) = subst Q (sym kept) (all c k)
        by_set (inr (place, now)) = subst Q (sym now) holds
    by_core false e =
        let other : d ≢ c = grind (arith, nat_tests, e) in
        subst (λ (cache : SharerCache). Q (get_or cache k [])) (sym (cache-other L c d v f other)) (all d k)

  -- the other cores are told
  pub sets-told : (a : CountedAccess) (T : SharerLists) → ((lines : List Line) → Q lines → Q (told_set a.kind a.word.0 lines)) → AllSets T → AllSets (telling T a)
  sets-told a T kept all d k = subst (λ (cache : SharerCache). Q (get_or cache k [])) (sym (cache-told T a d)) (by_core (d == a.core.0)) where
    by_core : (t : Bool) → Q (get_or (cond t (cache_of T d) (word_set_changed (cache_of T d) a.word.0 (told_set a.kind a.word.0))) k [])
    by_core true = all d k
    by_core false = by_set (set-any (cache_of T d) a.word.0 k (told_set a.kind a.word.0)) where
      by_set : (get_or (word_set_changed (cache_of T d) a.word.0 (told_set a.kind a.word.0)) k [] ≡ get_or (cache_of T d) k [])
          ⊎ ((k ≡ a.word.0 % length (cache_of T d)) × (get_or (word_set_changed (cache_of T d) a.word.0 (told_set a.kind a.word.0)) k [] ≡ told_set a.kind a.word.0 (set_of (cache_of T d) a.word.0)))
          → Q (get_or (word_set_changed (cache_of T d) a.word.0 (told_set a.kind a.word.0)) k [])
      by_set (inl kept_set) = subst Q (sym kept_set) (all d k)
      by_set (inr (place, now)) = subst Q (sym now) (kept (set_of (cache_of T d) a.word.0) (all d (a.word.0 % length (cache_of T d))))

  -- as a run begins
  pub sets-first : (shape : Shape) → Q [] → AllSets (no_lists shape)
  sets-first shape empty c k = subst Q (sym (none-set shape.cores c shape.sets k)) empty

-- ---- words of the memory

-- each line has one of the first words
abbrev pub AreBelow : ℕ → List Line → Type 0
AreBelow words [] = Unit {0}
AreBelow words (line ∷ lines) = (line.word.0 < words) × AreBelow words lines

below-append : (words : ℕ) (lines : List Line) (line : Line) → AreBelow words lines → line.word.0 < words → AreBelow words (lines ++ line ∷ [])
below-append words [] line all one = (one, tt)
below-append words (l ∷ lines) line all one = (all.0, below-append words lines line all.1 one)

below-without : (words v : ℕ) (lines : List Line) → AreBelow words lines → AreBelow words (without_word v lines)
below-without words v [] all = tt
below-without words v (line ∷ lines) all = by_test (is_line_of v line) (below-without words v lines all.1) where
  by_test : (t : Bool) → AreBelow words (without_word v lines) → AreBelow words (cond (not t) (line ∷ without_word v lines) (without_word v lines))
  by_test true rest = rest
  by_test false rest = (all.0, rest)

below-shared : (words v : ℕ) (lines : List Line) → AreBelow words lines → AreBelow words (map (as_shared v) lines)
below-shared words v [] all = tt
below-shared words v (line ∷ lines) all = (by_test (is_line_of v line), below-shared words v lines all.1) where
  by_test : (t : Bool) → (cond t (record line { share = Shared }) line).word.0 < words
  by_test true = all.0
  by_test false = all.0

below-drop : (words : ℕ) (lines : List Line) → AreBelow words lines → AreBelow words (drop 1 lines)
below-drop words [] all = tt
below-drop words (line ∷ lines) all = all.1

below-room : (words ways : ℕ) (lines : List Line) → AreBelow words lines → AreBelow words (with_room ways lines)
below-room words ways lines all = by_test (nat_lt (length lines) ways) where
  by_test : (t : Bool) → AreBelow words (cond t lines (drop 1 lines))
  by_test true = all
  by_test false = below-drop words lines all

below-told : (words : ℕ) (kind : AccessKind) (v : ℕ) (lines : List Line) → AreBelow words lines → AreBelow words (told_set kind v lines)
below-told words Load v lines all = below-shared words v lines all
below-told words Store v lines all = below-without words v lines all

below-used : (words : ℕ) (word : WordId) (new : Share) (lines : List Line) → word.0 < words → AreBelow words lines → AreBelow words (most_recent word new lines)
below-used words word new lines within all = below-append words (without_word word.0 lines) (record { word = word; share = new }) (below-without words word.0 lines all) within

-- the line that goes
pub gone-below : (words : ℕ) (L : SharerLists) (a : CountedAccess) (had : Option Share) (line : Line) → AllSets (AreBelow words) L → goes_for L a had ≡ Some line → line.word.0 < words
gone-below words L a (Some held) line all e = absurd (cc)
gone-below words L a None line all e = by_test (nat_lt (length mine) L.ways) e where
  mine : List Line
  mine = set_of (cache_of L a.core.0) a.word.0

  first : (lines : List Line) → AreBelow words lines → slice_get lines 0 ≡ Some line → line.word.0 < words
  first [] below e = absurd (cc)
  first (l ∷ lines) below e = let same : l ≡ line = one l e in subst (λ (x : Line). x.word.0 < words) same below.0 where
    one : (l : Line) → Some l ≡ Some line → l ≡ line
    one l e = cc

  by_test : (t : Bool) → cond t None (slice_get mine 0) ≡ Some line → line.word.0 < words
  by_test true e = absurd (cc)
  by_test false e = first mine (all a.core.0 (a.word.0 % length (cache_of L a.core.0))) e

module _ (words : ℕ) (L : SharerLists) (a : CountedAccess) (within : a.word.0 < words) (all : AllSets (AreBelow words) L) where
  below-place : (had : Option Share) → AllSets (AreBelow words) (with_place L a had)
  below-place None =
      sets-at (AreBelow words) L a.core.0 a.word.0 (with_room L.ways) all
      (below-room words L.ways (set_of (cache_of L a.core.0) a.word.0) (all a.core.0 (a.word.0 % length (cache_of L a.core.0))))
  below-place (Some held) = all

  below-having : (T : SharerLists) (new : Share) → AllSets (AreBelow words) T → AllSets (AreBelow words) (having T a new)
  below-having T new before =
      sets-at (AreBelow words) T a.core.0 a.word.0 (most_recent a.word new) before
      (below-used words a.word new (set_of (cache_of T a.core.0) a.word.0) within (before a.core.0 (a.word.0 % length (cache_of T a.core.0))))

  pub below-after : AllSets (AreBelow words) (lists_after L a)
  unfolding lists_after
  below-after = by_share (share_of L a.core.0 a.word.0) where
    by_share : (had : Option Share) → AllSets (AreBelow words) (lists_by L a had)
    by_share had = by_hit (is_hit a.kind had) where
      by_hit : (t : Bool) → AllSets (AreBelow words) (cond t (having L a (gained a.kind had)) (having (telling (with_place L a had) a) a (gained a.kind had)))
      by_hit true = below-having L (gained a.kind had) all
      by_hit false = below-having (telling (with_place L a had) a) (gained a.kind had) (sets-told (AreBelow words) a (with_place L a had) (below-told words a.kind a.word.0) (below-place had))
