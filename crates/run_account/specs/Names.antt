-- The words of an account, and of a run beside lists of sharers: the measures in the order in which they are printed, and what the
-- groups are called.
use Rattle.std.specs.Prelude.{ℕ, List, [], ◌∷◌, codes, Option, Some, None, slice_get}
use Rattle.std.specs.Fmt.{decimal}
use Rattle.region_table.specs.declared.declared.Region.{Region}
use Rattle.region_table.specs.Program.{ProgramParts}
use Rattle.run_account.specs.declared.item.Grouping.{Grouping}
use Rattle.run_account.specs.declared.item.Grouping.TheVariants as by
use Rattle.run_account.specs.declared.list_row.ListRow.{ListRow}
use Rattle.run_account.specs.declared.list_row.ListRow.TheVariants.{Pair, Single}
use Rattle.run_account.specs.declared.measure.Measure.{Measure}
use Rattle.run_account.specs.declared.measure.Measure.TheVariants.{Loads, Stores, LoadsLocal, StoresSilent, Registers, Misses, MissesFirst, MissesPhase, MissesLock, MissesEvicted, MissesTaken, DroppedPhase, DroppedLock, DroppedPhaseCurrent, DroppedLockCurrent, KeptTouched, KeptSignature, UntoldCopies, Taken, RepliesHome, RepliesCore, Bounces, EvictedCopies, EvictedRegistered, GrantsAtOnce, GrantsQueued, Messages, WaitsRead, WaitsWrite, ListMessages, ListReadRequests, ListWriteRequests, ListForwards, ListReplies, ListInvalidations, ListAcknowledgements, ListPutBacks, ListPutShares, ListPutAcks, ListWaitsRead, ListWaitsWrite, WaitsHereAlone, WaitsListAlone, ReadReqs, ReadFwds, DataReplies, RegReqs, RegFwds, RegAcks, WriteBacks, WbAcks, Acquires, Releases, Grants, Arrivals, Gos, Halts, ListReplyValues}

abbrev pub measure_word : Measure → List ℕ
measure_word Loads = codes "loads"
measure_word Stores = codes "stores"
measure_word LoadsLocal = codes "loads-local"
measure_word StoresSilent = codes "stores-silent"
measure_word Registers = codes "registers"
measure_word Misses = codes "misses"
measure_word MissesFirst = codes "misses-first"
measure_word MissesPhase = codes "misses-phase"
measure_word MissesLock = codes "misses-lock"
measure_word MissesEvicted = codes "misses-evicted"
measure_word MissesTaken = codes "misses-taken"
measure_word DroppedPhase = codes "dropped-phase"
measure_word DroppedLock = codes "dropped-lock"
measure_word DroppedPhaseCurrent = codes "dropped-phase-current"
measure_word DroppedLockCurrent = codes "dropped-lock-current"
measure_word KeptTouched = codes "kept-touched"
measure_word KeptSignature = codes "kept-signature"
measure_word UntoldCopies = codes "untold-copies"
measure_word Taken = codes "taken"
measure_word RepliesHome = codes "replies-home"
measure_word RepliesCore = codes "replies-core"
measure_word Bounces = codes "bounces"
measure_word EvictedCopies = codes "evicted-copies"
measure_word EvictedRegistered = codes "evicted-registered"
measure_word GrantsAtOnce = codes "grants-at-once"
measure_word GrantsQueued = codes "grants-queued"
measure_word Messages = codes "messages"
measure_word WaitsRead = codes "waits-read"
measure_word WaitsWrite = codes "waits-write"
measure_word ListMessages = codes "list-messages"
measure_word ListReadRequests = codes "list-read-requests"
measure_word ListWriteRequests = codes "list-write-requests"
measure_word ListForwards = codes "list-forwards"
measure_word ListReplies = codes "list-replies"
measure_word ListInvalidations = codes "list-invalidations"
measure_word ListAcknowledgements = codes "list-acknowledgements"
measure_word ListPutBacks = codes "list-put-backs"
measure_word ListPutShares = codes "list-put-shares"
measure_word ListPutAcks = codes "list-put-acks"
measure_word ListWaitsRead = codes "list-waits-read"
measure_word ListWaitsWrite = codes "list-waits-write"
measure_word WaitsHereAlone = codes "waits-here-alone"
measure_word WaitsListAlone = codes "waits-list-alone"
measure_word ReadReqs = codes "read-req"
measure_word ReadFwds = codes "read-fwd"
measure_word DataReplies = codes "data-reply"
measure_word RegReqs = codes "reg-req"
measure_word RegFwds = codes "reg-fwd"
measure_word RegAcks = codes "reg-ack"
measure_word WriteBacks = codes "write-back"
measure_word WbAcks = codes "wb-ack"
measure_word Acquires = codes "acquire"
measure_word Releases = codes "release"
measure_word Grants = codes "grant"
measure_word Arrivals = codes "arrived"
measure_word Gos = codes "go"
measure_word Halts = codes "halt"
measure_word ListReplyValues = codes "list-reply-values"

-- the measures of an account in the order in which they are printed
unfoldable pub all_measures : List Measure
all_measures =
    Loads ∷ Stores ∷ LoadsLocal ∷ StoresSilent ∷ Registers ∷ Misses ∷ MissesFirst ∷ MissesPhase ∷ MissesLock ∷ MissesEvicted
    ∷ MissesTaken ∷ DroppedPhase ∷ DroppedLock ∷ DroppedPhaseCurrent ∷ DroppedLockCurrent ∷ KeptTouched ∷ KeptSignature
    ∷ UntoldCopies ∷ Taken ∷ RepliesHome ∷ RepliesCore ∷ Bounces ∷ EvictedCopies ∷ EvictedRegistered ∷ GrantsAtOnce
    ∷ GrantsQueued ∷ []

-- the measures of a run beside lists
unfoldable pub list_measures : List Measure
list_measures =
    Messages ∷ WaitsRead ∷ WaitsWrite ∷ ListMessages ∷ ListReadRequests ∷ ListWriteRequests ∷ ListForwards ∷ ListReplies
    ∷ ListInvalidations ∷ ListAcknowledgements ∷ ListPutBacks ∷ ListPutShares ∷ ListPutAcks ∷ ListWaitsRead ∷ ListWaitsWrite
    ∷ WaitsHereAlone ∷ WaitsListAlone ∷ []

-- the rows of their table: a measure of the run beside the same with lists, or one measure alone
unfoldable pub list_rows : List ListRow
list_rows =
    Pair Messages ListMessages ∷ Pair WaitsRead ListWaitsRead ∷ Pair WaitsWrite ListWaitsWrite ∷ Single ListReadRequests
    ∷ Single ListWriteRequests ∷ Single ListForwards ∷ Single ListReplies ∷ Single ListInvalidations
    ∷ Single ListAcknowledgements ∷ Single ListPutBacks ∷ Single ListPutShares ∷ Single ListPutAcks ∷ Single WaitsHereAlone
    ∷ Single WaitsListAlone ∷ []

-- what a row is called
abbrev pub row_word : ListRow → List ℕ
row_word (Pair here lists) = measure_word here
row_word (Single m) = measure_word m

-- what the groups are
abbrev pub grouping_word : Grouping → List ℕ
grouping_word by.Run = codes "by run"
grouping_word by.Phase = codes "by phase"
grouping_word by.Core = codes "by core"
grouping_word by.Region = codes "by region"

abbrev pub region_name : Option Region → List ℕ
region_name None = []
region_name (Some r) = r.name

-- what a group is called
abbrev pub group_name : ProgramParts → Grouping → ℕ → List ℕ
group_name P by.Run group = codes "run"
group_name P by.Phase group = decimal group
group_name P by.Core group = decimal group
group_name P by.Region group = region_name (slice_get P.regions group)
