-- The traffic of a run: how many messages of each kind it takes, and how many bytes, beside the same with lists of sharers.
use Rattle.std.specs.Prelude.{ℕ, ◌+◌, ◌*◌, Bool, nat_le, ◌&&◌, List, [], ◌∷◌, ◌++◌, codes, map, sum, if◌then◌else◌}
use Rattle.message_net.specs.declared.event.Event.{Event}
use Rattle.message_net.specs.declared.event.EventKind.{EventKind}
use Rattle.message_net.specs.declared.event.EventKind.TheVariants.{DataReply, WriteBack, Release, Grant}
use Rattle.message_net.specs.Kind.{kind_index}
use Rattle.machine_rules.specs.State.{State}
use Rattle.machine_rules.specs.Runs.{kinds_of}
use Rattle.run_account.specs.declared.measure.Measure.{Measure}
use Rattle.run_account.specs.declared.measure.Measure.TheVariants.{Messages, ListMessages, ListPutBacks, ReadReqs, ReadFwds, DataReplies, RegReqs, RegFwds, RegAcks, WriteBacks, WbAcks, Acquires, Releases, Grants, Arrivals, Gos, Halts, ListReplyValues}
use Rattle.run_account.specs.declared.traffic_row.TrafficRow.{TrafficRow}
use Rattle.run_account.specs.declared.traffic_row.TrafficRow.TheVariants as row
use Rattle.run_account.specs.Names.{measure_word}
use Rattle.run_account.specs.Tallies.{Tallies, capped, tally_of}

-- ---- the bytes of a message

-- each has 8 bytes; the value of a word has 4 more, and a signature, which has 256 bits and a phase, 33 more
abbrev pub bytes_of_kind : EventKind → ℕ
bytes_of_kind DataReply = 12
bytes_of_kind WriteBack = 12
bytes_of_kind Release = 41
bytes_of_kind Grant = 41
bytes_of_kind k = 8

-- ---- rows

-- the sum of the numbers of these measures in a group
abbrev pub sum_of_measures : Tallies → ℕ → List Measure → ℕ
sum_of_measures t group ms = sum (map (λ (m : Measure). tally_of m group t) ms)

-- the bytes of messages: 8 for each, 4 for each value of a word, and 33 for each signature, which has 256 bits and a phase
abbrev pub bytes_with : Tallies → ℕ → List Measure → List Measure → List Measure → ℕ
bytes_with t group messages values signatures =
    capped (8 * sum_of_measures t group messages + 4 * sum_of_measures t group values + 33 * sum_of_measures t group signatures)

abbrev pub row_number : Tallies → ℕ → TrafficRow → ℕ
row_number t group (row.Count m) = tally_of m group t
row_number t group (row.BytesOf m) = bytes_with t group (m ∷ []) [] []
row_number t group (row.ValueBytesOf m) = bytes_with t group (m ∷ []) (m ∷ []) []
row_number t group (row.SignedBytesOf m) = bytes_with t group (m ∷ []) [] (m ∷ [])
row_number t group row.WordBytes = bytes_with t group (Messages ∷ []) (DataReplies ∷ WriteBacks ∷ []) []
row_number t group row.LockBytes = bytes_with t group (Acquires ∷ Releases ∷ Grants ∷ []) [] (Releases ∷ Grants ∷ [])
row_number t group row.BarrierBytes = bytes_with t group (Arrivals ∷ Gos ∷ Halts ∷ []) [] []
row_number t group row.ListBytes = bytes_with t group (ListMessages ∷ []) (ListReplyValues ∷ ListPutBacks ∷ []) []
row_number t group row.ListLockBytes = bytes_with t group (Acquires ∷ Releases ∷ Grants ∷ []) [] []

-- the row with the bytes of the messages of a measure
abbrev pub bytes_row : Measure → TrafficRow
bytes_row DataReplies = row.ValueBytesOf DataReplies
bytes_row WriteBacks = row.ValueBytesOf WriteBacks
bytes_row Releases = row.SignedBytesOf Releases
bytes_row Grants = row.SignedBytesOf Grants
bytes_row m = row.BytesOf m

-- the rows in the order in which they are printed: the number and the bytes of each kind of message, and then the sums
unfoldable pub traffic_rows : List TrafficRow
traffic_rows =
    row.Count ReadReqs ∷ row.BytesOf ReadReqs ∷ row.Count ReadFwds ∷ row.BytesOf ReadFwds ∷ row.Count DataReplies ∷ row.ValueBytesOf DataReplies
    ∷ row.Count RegReqs ∷ row.BytesOf RegReqs ∷ row.Count RegFwds ∷ row.BytesOf RegFwds ∷ row.Count RegAcks ∷ row.BytesOf RegAcks
    ∷ row.Count WriteBacks ∷ row.ValueBytesOf WriteBacks ∷ row.Count WbAcks ∷ row.BytesOf WbAcks ∷ row.Count Acquires ∷ row.BytesOf Acquires
    ∷ row.Count Releases ∷ row.SignedBytesOf Releases ∷ row.Count Grants ∷ row.SignedBytesOf Grants ∷ row.Count Arrivals ∷ row.BytesOf Arrivals
    ∷ row.Count Gos ∷ row.BytesOf Gos ∷ row.Count Halts ∷ row.BytesOf Halts ∷ row.Count Messages ∷ row.WordBytes ∷ row.LockBytes
    ∷ row.BarrierBytes ∷ row.Count ListMessages ∷ row.ListBytes ∷ row.ListLockBytes ∷ []

-- what a row is called
abbrev pub traffic_word : TrafficRow → List ℕ
traffic_word (row.Count m) = measure_word m
traffic_word (row.BytesOf m) = measure_word m ++ codes "-bytes"
traffic_word (row.ValueBytesOf m) = measure_word m ++ codes "-bytes"
traffic_word (row.SignedBytesOf m) = measure_word m ++ codes "-bytes"
traffic_word row.WordBytes = codes "bytes"
traffic_word row.LockBytes = codes "lock-bytes"
traffic_word row.BarrierBytes = codes "barrier-bytes"
traffic_word row.ListBytes = codes "list-bytes"
traffic_word row.ListLockBytes = codes "list-lock-bytes"

-- ---- what the laws speak of

-- the kinds of the messages about words, about locks, and of the barrier
abbrev pub is_kind_from : ℕ → ℕ → EventKind → Bool
is_kind_from first last k = nat_le first (kind_index k) && nat_le (kind_index k) last

-- the bytes of the messages of these kinds that the events from a state on handle
abbrev pub kinds_bytes : (EventKind → Bool) → List EventKind → ℕ
kinds_bytes test kinds = sum (map (λ (k : EventKind). if test k then bytes_of_kind k else 0) kinds)

abbrev pub bytes_handled : (EventKind → Bool) → State → List Event → ℕ
bytes_handled test S events = kinds_bytes test (kinds_of S events)
