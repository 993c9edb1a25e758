-- What an access costs with lists of sharers: the table of a directory protocol, and the items that are counted.
use Rattle.std.specs.Prelude.{ℕ, ◌==◌, Bool, ◌&&◌, not, List, [], ◌∷◌, ◌++◌, flat_map, Option, Some, None, if◌then◌else◌}
use Rattle.std.specs.List.{enumerate_from}
use Rattle.dn_base.specs.declared.ids.WordId.{WordId}
use Rattle.run_account.specs.declared.item.Item.{Item}
use Rattle.run_account.specs.declared.measure.Measure.{Measure}
use Rattle.run_account.specs.declared.measure.Measure.TheVariants as measure
use Rattle.run_account.specs.Events.{item_if}
use Rattle.run_account.specs.declared.access.AccessKind.{AccessKind}
use Rattle.run_account.specs.declared.access.AccessKind.TheVariants.{Load, Store}
use Rattle.run_account.specs.declared.access.CountedAccess.{CountedAccess}
use Rattle.run_account.specs.declared.cache.Line.{Line}
use Rattle.run_account.specs.declared.cache.Share.{Share}
use Rattle.run_account.specs.declared.cache.Share.TheVariants.{Shared, Owned}
use Rattle.run_account.specs.Caches.{SharerCache, share_at, set_of, leaving}
use Rattle.run_account.specs.Lists.{SharerLists, cache_of, share_of, is_hit, with_place}

-- ---- messages, by their kinds

-- an access that isn't a hit sends a request to the word's home, and gets a reply
abbrev pub asks : AccessKind → List Measure
asks Load = measure.ListReadRequests ∷ measure.ListReplies ∷ []
asks Store = measure.ListWriteRequests ∷ measure.ListReplies ∷ []

-- what the home sends to another core by what that core has of the word, and what that core sends
abbrev pub tells : AccessKind → Option Share → List Measure
tells kind None = []
tells Load (Some Shared) = []
tells Load (Some Owned) = measure.ListForwards ∷ measure.ListPutBacks ∷ []
tells Store (Some Shared) = measure.ListInvalidations ∷ measure.ListAcknowledgements ∷ []
tells Store (Some Owned) = measure.ListForwards ∷ []

-- a word that goes to make room
abbrev pub puts : Share → List Measure
puts Shared = measure.ListPutShares ∷ measure.ListPutAcks ∷ []
puts Owned = measure.ListPutBacks ∷ measure.ListPutAcks ∷ []

-- ---- items

-- they count for the core and the phase of the access
abbrev pub access_item : CountedAccess → WordId → Measure → Item
access_item a word m = record { measure = m; phase = a.phase; core = a.core; word = Some word }

-- a message counts for its kind, and as a message
abbrev pub kind_items : CountedAccess → WordId → Measure → List Item
kind_items a word kind = access_item a word measure.ListMessages ∷ access_item a word kind ∷ []

abbrev pub messages_items : CountedAccess → WordId → List Measure → List Item
messages_items a word kinds = flat_map (kind_items a word) kinds

-- the word that goes to make room for one that the core hasn't
abbrev pub goes_for : SharerLists → CountedAccess → Option Share → Option Line
goes_for L a None = leaving L.ways (set_of (cache_of L a.core.0) a.word.0)
goes_for L a (Some held) = None

abbrev pub gone_items : CountedAccess → Option Line → List Item
gone_items a None = []
gone_items a (Some line) = messages_items a line.word (puts line.share)

-- every other core that has the word
abbrev pub told_items : CountedAccess → ℕ × SharerCache → List Item
told_items a (c, cache) = if c == a.core.0 then [] else messages_items a a.word (tells a.kind (share_at cache a.word.0))

abbrev pub others_items : SharerLists → CountedAccess → List Item
others_items L a = flat_map (told_items a) (enumerate_from 0 L.caches)

abbrev pub missed_items : SharerLists → CountedAccess → Option Share → List Item
missed_items L a had = gone_items a (goes_for L a had) ++ messages_items a a.word (asks a.kind) ++ others_items (with_place L a had) a

-- who waits: in the run, with lists, and in one of the two alone
abbrev pub waits_here : AccessKind → Measure
waits_here Load = measure.WaitsRead
waits_here Store = measure.WaitsWrite

abbrev pub waits_listed : AccessKind → Measure
waits_listed Load = measure.ListWaitsRead
waits_listed Store = measure.ListWaitsWrite

abbrev pub waits_items : CountedAccess → Bool → List Item
waits_items a hit =
    item_if a.waited (access_item a a.word (waits_here a.kind))
    ++ item_if (not hit) (access_item a a.word (waits_listed a.kind))
    ++ item_if (a.waited && hit) (access_item a a.word measure.WaitsHereAlone)
    ++ item_if (not a.waited && not hit) (access_item a a.word measure.WaitsListAlone)

abbrev pub items_by : SharerLists → CountedAccess → Option Share → List Item
items_by L a had = waits_items a (is_hit a.kind had) ++ (if is_hit a.kind had then [] else missed_items L a had)

-- all items of an access
unfoldable pub access_items : SharerLists → CountedAccess → List Item
access_items L a = items_by L a (share_of L a.core.0 a.word.0)
