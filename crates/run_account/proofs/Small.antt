-- No set has more words than ways.
use Rattle.std.proofs.Common.{◌≡◌, ℕ, ◌+◌, ◌%◌, ◌<◌, ◌≤◌, Bool, true, false, cond, nat_lt, length, get_or, drop, List, [], ◌∷◌, Option, Some, None, refl, sym, ap, subst, ◌∙◌, arith}
use Rattle.std.specs.Prelude.{◌==◌}
use Rattle.std.proofs.lemmas.Bool.Decides.{nat_tests}
use Rattle.std.proofs.lemmas.List.{length-map, length-append}
use Rattle.dn_base.specs.declared.ids.Shape.{Shape}
use Rattle.dn_base.specs.declared.ids.WordId.{WordId}
use Rattle.message_net.specs.declared.event.Event.{Event}
use Rattle.machine_rules.specs.State.{State}
use Rattle.machine_rules.specs.Next.{next}
use Rattle.run_account.specs.declared.access.AccessKind.{AccessKind}
use Rattle.run_account.specs.declared.access.AccessKind.TheVariants.{Load, Store}
use Rattle.run_account.specs.declared.access.CountedAccess.{CountedAccess}
use Rattle.run_account.specs.declared.cache.Line.{Line}
use Rattle.run_account.specs.declared.cache.Share.{Share}
use Rattle.run_account.specs.Caches.{SharerCache, without_word, as_shared, set_of, most_recent, with_room, word_set_changed}
use Rattle.run_account.specs.Lists.{SharerLists, no_lists, cache_of, share_of, at_set, is_hit, gained, with_place, told_set, telling, having, lists_by, lists_after}
use Rattle.run_account.specs.Runs.{counted_in, lists_with, next_lists, lists_of_run, lists_in_run}
use Rattle.run_account.proofs.Has.{without-shorter, without-less, set-same, cache-same, cache-told}
use Rattle.run_account.proofs.Sets.{sets-at, sets-told, sets-first}

-- no set of a core has more lines than ways
pub record IsSmall (ways : ℕ) (L : SharerLists) : Type 0 where
  ways_are : L.ways ≡ ways
  sets : (c k : ℕ) → length (get_or (cache_of L c) k []) ≤ ways

-- ---- sets

used-length : (word : WordId) (new : Share) (lines : List Line) → length (most_recent word new lines) ≡ length (without_word word.0 lines) + 1
used-length word new lines = length-append (without_word word.0 lines) (record { word = word; share = new } ∷ [])

drop-less : (lines : List Line) → 0 < length lines → length (drop 1 lines) < length lines
drop-less [] some = absurd (omega (arith, some))
drop-less (line ∷ lines) some = omega arith

-- a set that has made room has room
room-less : (ways : ℕ) (lines : List Line) → 0 < ways → length lines ≤ ways → length (with_room ways lines) < ways
room-less ways lines some within = by_test (nat_lt (length lines) ways) refl where
  by_test : (t : Bool) → nat_lt (length lines) ways ≡ t → length (cond t lines (drop 1 lines)) < ways
  by_test true e = grind (arith, nat_tests, e)
  by_test false e =
      let full : ways ≤ length lines = grind (arith, nat_tests, e) in
      omega (arith, full, within, some, drop-less lines (omega (arith, full, some)))

told-length : (kind : AccessKind) (v : ℕ) (lines : List Line) → length (told_set kind v lines) ≤ length lines
told-length Load v lines = omega (arith, length-map lines (as_shared v))
told-length Store v lines = without-shorter v lines

-- ---- a change of one set of a core

abbrev IsFit : ℕ → List Line → Type 0
IsFit ways lines = length lines ≤ ways

small-at : (ways : ℕ) (L : SharerLists) (c v : ℕ) (f : List Line → List Line) → IsSmall ways L → length (f (set_of (cache_of L c) v)) ≤ ways → IsSmall ways (at_set L c v f)
small-at ways L c v f small within = record { ways_are = small.ways_are; sets = sets-at (IsFit ways) L c v f small.sets within }

-- ---- an access

module _ (ways : ℕ) (some : 0 < ways) (L : SharerLists) (a : CountedAccess) (small : IsSmall ways L) where
  abbrev mine : List Line
  mine = set_of (cache_of L a.core.0) a.word.0

  mine-small : length mine ≤ ways
  mine-small = small.sets a.core.0 (a.word.0 % length (cache_of L a.core.0))

  small-place : (had : Option Share) → IsSmall ways (with_place L a had)
  small-place None =
      small-at ways L a.core.0 a.word.0 (with_room L.ways) small
      (subst (λ (n : ℕ). length (with_room n mine) ≤ ways) (sym small.ways_are) (omega (arith, room-less ways mine some mine-small)))
  small-place (Some held) = small

  small-told : (T : SharerLists) → IsSmall ways T → IsSmall ways (telling T a)
  small-told T before =
      record {
        ways_are = before.ways_are;
        sets = sets-told (IsFit ways) a T (λ lines fits. omega (arith, told-length a.kind a.word.0 lines, fits)) before.sets;
      }

  -- the core's own cache isn't told
  own-kept : (T : SharerLists) → cache_of (telling T a) a.core.0 ≡ cache_of T a.core.0
  own-kept T = cache-told T a a.core.0 ∙ by_core (a.core.0 == a.core.0) refl where
    by_core : (t : Bool) → (a.core.0 == a.core.0) ≡ t → cond t (cache_of T a.core.0) (word_set_changed (cache_of T a.core.0) a.word.0 (told_set a.kind a.word.0)) ≡ cache_of T a.core.0
    by_core true e = refl
    by_core false e = absurd (grind (arith, nat_tests, e))

  room-empty : with_room L.ways [] ≡ []
  room-empty = by_test (nat_lt 0 L.ways) where
    by_test : (t : Bool) → ◌≡◌ {A = List Line} (cond t [] (drop 1 [])) []
    by_test true = refl
    by_test false = refl

  -- the word's set once room is made
  own-set : (had : Option Share) → share_of L a.core.0 a.word.0 ≡ had → length (without_word a.word.0 (set_of (cache_of (with_place L a had) a.core.0) a.word.0)) + 1 ≤ ways
  own-set None is =
      let made : set_of (cache_of (with_place L a None) a.core.0) a.word.0 ≡ with_room L.ways mine =
      ap (λ (cache : SharerCache). set_of cache a.word.0) (cache-same L a.core.0 a.word.0 (with_room L.ways)) ∙ set-same (cache_of L a.core.0) a.word.0 (with_room L.ways) room-empty
      in
      subst (λ (lines : List Line). length (without_word a.word.0 lines) + 1 ≤ ways) (sym made)
      (subst (λ (n : ℕ). length (without_word a.word.0 (with_room n mine)) + 1 ≤ ways) (sym small.ways_are)
      (omega (arith, without-shorter a.word.0 (with_room ways mine), room-less ways mine some mine-small)))
  own-set (Some held) is = omega (arith, without-less a.word.0 held mine is, mine-small)

  used-small : (lines : List Line) (new : Share) → length (without_word a.word.0 lines) + 1 ≤ ways → length (most_recent a.word new lines) ≤ ways
  used-small lines new within = omega (arith, used-length a.word new lines, within)

  pub small-after : IsSmall ways (lists_after L a)
  unfolding lists_after
  small-after = by_share (share_of L a.core.0 a.word.0) refl where
    by_share : (had : Option Share) → share_of L a.core.0 a.word.0 ≡ had → IsSmall ways (lists_by L a had)
    by_share had is = by_hit (is_hit a.kind had) refl where
      hit : (o : Option Share) → share_of L a.core.0 a.word.0 ≡ o → is_hit a.kind o ≡ true → length (without_word a.word.0 mine) + 1 ≤ ways
      hit None now e = absurd (by_kind a.kind e) where
        by_kind : (kind : AccessKind) → is_hit kind None ≡ true → ⊥
        by_kind Load e = cc
        by_kind Store e = cc
      hit (Some held) now e = omega (arith, without-less a.word.0 held mine now, mine-small)

      by_hit : (t : Bool) → is_hit a.kind had ≡ t → IsSmall ways (cond t (having L a (gained a.kind had)) (having (telling (with_place L a had) a) a (gained a.kind had)))
      by_hit true e = small-at ways L a.core.0 a.word.0 (most_recent a.word (gained a.kind had)) small (used-small mine (gained a.kind had) (hit had is e))
      by_hit false e =
          small-at ways (telling (with_place L a had) a) a.core.0 a.word.0 (most_recent a.word (gained a.kind had)) (small-told (with_place L a had) (small-place had))
          (used-small (set_of (cache_of (telling (with_place L a had) a) a.core.0) a.word.0) (gained a.kind had)
          (subst (λ (cache : SharerCache). length (without_word a.word.0 (set_of cache a.word.0)) + 1 ≤ ways) (sym (own-kept (with_place L a had))) (own-set had is)))

-- ---- a run

small-with : (ways : ℕ) → 0 < ways → (L : SharerLists) (o : Option CountedAccess) → IsSmall ways L → IsSmall ways (lists_with L o)
small-with ways some L None small = small
small-with ways some L (Some a) small = small-after ways some L a small

small-run : (ways : ℕ) → 0 < ways → (events : List Event) (S : State) (L : SharerLists) → IsSmall ways L → IsSmall ways (lists_of_run S L events)
small-run ways some [] S L small = small
small-run ways some (e ∷ es) S L small = small-run ways some es (next S e) (next_lists S e L) (small-with ways some L (counted_in S e) small)

small-first : (shape : Shape) → IsSmall shape.ways (no_lists shape)
small-first shape = record { ways_are = refl; sets = sets-first (IsFit shape.ways) shape (omega arith) }

pub sets-small : (S : State) (events : List Event) (c set : ℕ) → 0 < S.setting.shape.ways → length (get_or (cache_of (lists_in_run S events) c) set []) ≤ S.setting.shape.ways
sets-small S events c set some = (small-run S.setting.shape.ways some events S (no_lists S.setting.shape) (small-first S.setting.shape)).sets c set
