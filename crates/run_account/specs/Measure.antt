-- The measures of an account, of a run beside lists of sharers, and of its traffic, and their order.
use Rattle.std.specs.Prelude.{ℕ, Bool, ◌==◌}
use Rattle.run_account.specs.declared.measure.Measure.{Measure}
use Rattle.run_account.specs.declared.measure.Measure.TheVariants.{Loads, Stores, LoadsLocal, StoresSilent, Registers, Misses, MissesFirst, MissesPhase, MissesLock, MissesEvicted, MissesTaken, DroppedPhase, DroppedLock, DroppedPhaseCurrent, DroppedLockCurrent, KeptTouched, KeptSignature, UntoldCopies, Taken, RepliesHome, RepliesCore, Bounces, EvictedCopies, EvictedRegistered, GrantsAtOnce, GrantsQueued, Messages, WaitsRead, WaitsWrite, ListMessages, ListReadRequests, ListWriteRequests, ListForwards, ListReplies, ListInvalidations, ListAcknowledgements, ListPutBacks, ListPutShares, ListPutAcks, ListWaitsRead, ListWaitsWrite, WaitsHereAlone, WaitsListAlone, ReadReqs, ReadFwds, DataReplies, RegReqs, RegFwds, RegAcks, WriteBacks, WbAcks, Acquires, Releases, Grants, Arrivals, Gos, Halts, ListReplyValues}

-- the twenty-six measures of an account in their order, then the seventeen of a run beside lists, and the fifteen of its traffic
abbrev pub measure_index : Measure → ℕ
measure_index Loads = 0
measure_index Stores = 1
measure_index LoadsLocal = 2
measure_index StoresSilent = 3
measure_index Registers = 4
measure_index Misses = 5
measure_index MissesFirst = 6
measure_index MissesPhase = 7
measure_index MissesLock = 8
measure_index MissesEvicted = 9
measure_index MissesTaken = 10
measure_index DroppedPhase = 11
measure_index DroppedLock = 12
measure_index DroppedPhaseCurrent = 13
measure_index DroppedLockCurrent = 14
measure_index KeptTouched = 15
measure_index KeptSignature = 16
measure_index UntoldCopies = 17
measure_index Taken = 18
measure_index RepliesHome = 19
measure_index RepliesCore = 20
measure_index Bounces = 21
measure_index EvictedCopies = 22
measure_index EvictedRegistered = 23
measure_index GrantsAtOnce = 24
measure_index GrantsQueued = 25
measure_index Messages = 26
measure_index WaitsRead = 27
measure_index WaitsWrite = 28
measure_index ListMessages = 29
measure_index ListReadRequests = 30
measure_index ListWriteRequests = 31
measure_index ListForwards = 32
measure_index ListReplies = 33
measure_index ListInvalidations = 34
measure_index ListAcknowledgements = 35
measure_index ListPutBacks = 36
measure_index ListPutShares = 37
measure_index ListPutAcks = 38
measure_index ListWaitsRead = 39
measure_index ListWaitsWrite = 40
measure_index WaitsHereAlone = 41
measure_index WaitsListAlone = 42
measure_index ReadReqs = 43
measure_index ReadFwds = 44
measure_index DataReplies = 45
measure_index RegReqs = 46
measure_index RegFwds = 47
measure_index RegAcks = 48
measure_index WriteBacks = 49
measure_index WbAcks = 50
measure_index Acquires = 51
measure_index Releases = 52
measure_index Grants = 53
measure_index Arrivals = 54
measure_index Gos = 55
measure_index Halts = 56
measure_index ListReplyValues = 57

-- whether two measures are one
abbrev pub same_measure : Measure → Measure → Bool
same_measure a b = measure_index a == measure_index b
