-- Lists of sharers: the caches of all cores, and what an access does to them.
use Rattle.std.specs.Prelude.{ℕ, ◌<◌, ◌≤◌, ◌==◌, length, Bool, true, false, List, [], map, replicate, slice_set, slice_index_or, Option, Some, None, if◌then◌else◌}
use Rattle.std.specs.List.{enumerate_from}
use Rattle.dn_base.specs.declared.ids.Shape.{Shape}
use Rattle.run_account.specs.declared.access.AccessKind.{AccessKind}
use Rattle.run_account.specs.declared.access.AccessKind.TheVariants.{Load, Store}
use Rattle.run_account.specs.declared.access.CountedAccess.{CountedAccess}
use Rattle.run_account.specs.declared.cache.Line.{Line}
use Rattle.run_account.specs.declared.cache.Share.{Share}
use Rattle.run_account.specs.declared.cache.Share.TheVariants.{Shared, Owned}
use Rattle.run_account.specs.Caches.{SharerCache, share_at, word_set_changed, with_room, most_recent, as_shared, without_word}

-- how many words a set may have, and the cache of each core. The list of a word is the set of the cores that have it
pub record SharerLists : Type 0 where
  pub ways : ℕ
  pub caches : List SharerCache

-- a set has a way at least, and there are 16 cores at most
pub record IsSized (L : SharerLists) : Type 0 where
  pub ways : 0 < L.ways
  pub cores : length L.caches ≤ 16

-- at first all caches are empty
abbrev pub no_lists : Shape → SharerLists
no_lists shape = record { ways = shape.ways; caches = replicate shape.cores (replicate shape.sets []) }

abbrev pub cache_of : SharerLists → ℕ → SharerCache
cache_of L c = slice_index_or L.caches c []

-- what a core has of a word
abbrev pub share_of : SharerLists → ℕ → ℕ → Option Share
share_of L c w = share_at (cache_of L c) w

-- the set of a core that a word is in becomes another one
abbrev pub at_set : SharerLists → ℕ → ℕ → (List Line → List Line) → SharerLists
at_set L c w becomes = record L { caches = slice_set L.caches c (word_set_changed (cache_of L c) w becomes) }

-- ---- an access of a word by a core, by what the core has of the word

-- whether it is a hit: no message is needed
abbrev pub is_hit : AccessKind → Option Share → Bool
is_hit Load None = false
is_hit Load (Some held) = true
is_hit Store None = false
is_hit Store (Some Shared) = false
is_hit Store (Some Owned) = true

-- what the core has of the word afterwards
abbrev pub gained : AccessKind → Option Share → Share
gained Load None = Shared
gained Load (Some held) = held
gained Store had = Owned

-- room is made for a word that the core hasn't
abbrev pub with_place : SharerLists → CountedAccess → Option Share → SharerLists
with_place L a None = at_set L a.core.0 a.word.0 (with_room L.ways)
with_place L a (Some held) = L

-- each other core is told: by a load, that it doesn't own the word any more; by a store, that it has lost it
abbrev pub told_set : AccessKind → ℕ → List Line → List Line
told_set Load w lines = map (as_shared w) lines
told_set Store w lines = without_word w lines

abbrev pub told_cache : CountedAccess → ℕ × SharerCache → SharerCache
told_cache a (c, cache) = if c == a.core.0 then cache else word_set_changed cache a.word.0 (told_set a.kind a.word.0)

abbrev pub telling : SharerLists → CountedAccess → SharerLists
telling L a = record L { caches = map (told_cache a) (enumerate_from 0 L.caches) }

-- the core has the word, and it is the most recently used of its set
abbrev pub having : SharerLists → CountedAccess → Share → SharerLists
having L a share = at_set L a.core.0 a.word.0 (most_recent a.word share)

abbrev pub lists_by : SharerLists → CountedAccess → Option Share → SharerLists
lists_by L a had =
    if is_hit a.kind had then having L a (gained a.kind had) else having (telling (with_place L a had) a) a (gained a.kind had)

-- the lists after an access
unfoldable pub lists_after : SharerLists → CountedAccess → SharerLists
lists_after L a = lists_by L a (share_of L a.core.0 a.word.0)
