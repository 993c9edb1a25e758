-- How many events of each kind there are.
use Rattle.std.specs.Prelude.{ℕ, ◌≡◌, ◌+◌, ◌==◌, Bool, List, count_by, slice_index_or, slice_set, replicate}
use Rattle.message_net.specs.declared.event.EventKind.{EventKind}
use Rattle.message_net.specs.Kind.{kind_index}
use Rattle.grant_log.specs.declared.counts.Counts.{Counts}

-- whether two kinds are the same
abbrev pub same_kind : EventKind → EventKind → Bool
same_kind a b = kind_index a == kind_index b

-- the count of a kind
abbrev pub kind_count : EventKind → Counts → ℕ
kind_count k counts = slice_index_or counts.kinds (kind_index k) 0

-- no event of any kind
abbrev pub no_counts : Counts
no_counts = record { kinds = replicate 17 0 }

-- one more event of a kind
abbrev pub added : EventKind → Counts → Counts
added k counts = record { kinds = slice_set counts.kinds (kind_index k) (kind_count k counts + 1) }

-- the counts of a list of events: for each kind, how many of the events are of it
abbrev pub AreCounts : List EventKind → Counts → Type 0
AreCounts kinds counts = (k : EventKind) → kind_count k counts ≡ count_by (same_kind k) kinds
