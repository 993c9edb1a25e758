pub mod Bits
pub mod Invariant
mod Lists
pub mod Steps
pub mod BitLemmas
pub mod Outcomes
mod ReadableWords
mod ReadablePhases
pub mod ReadableValues
mod ReadableReads
mod WordEvents
pub mod WordCore
mod WordHome
mod WordGood
mod WordQuiet
mod WordSteps
mod WordRights
mod WordMade
mod WordMoves
mod WordBacks
mod WordOutcomes
pub mod Exclusive
mod AddressOutcomes
pub mod PhaseRows
mod PhaseNodes
pub mod PhaseWhole
mod PhaseKeeper
mod PhaseOutcomes
mod NodeEntries
mod ReadMails
mod ReadEvents
mod ReadSteps
mod ReadHome
mod ReadOutcomes
mod ValueEvents
mod ValueSteps
mod ValueStores
mod ValueOutcomes
mod LockRows
mod LockHomes
mod LockSigns
mod LockOutcomes
mod Planned
mod CopyFrames
mod CopyNodes
mod CopyGrants
mod CopyPhases
mod CopyStores
mod CopyEvents
mod CopyOutcomes
mod DispatchOwn
mod DispatchCore
mod DispatchBank
pub mod Dispatch
pub mod MachineMails
pub mod MachineKept
pub mod SoundEvents
pub mod AnySize
pub mod OpenedFacts
pub mod OpenedSound
pub mod OpenedInvariant
mod ReadableLocks
mod BehindOutcomes
mod ReadableMails
mod Found
mod ReadableCopies
mod Readable
pub mod LoadsRead
mod EndedOutcomes
pub mod Kept
pub mod RunsKept
pub mod RunsCoherent
pub mod RestNodes
pub mod RestStates
mod Spending
mod Totals
mod SpendSteps
mod SpendNodes
mod SpendOutcomes
mod SpendBound
mod PhasesOn
mod PlainOutcomes
mod LastTasks
pub mod NoPhases
pub mod BoundRuns
mod AccessMade
mod TasksMove
mod ActionsDone
mod ReadOff
mod InProgramOrder
mod LocksLegal
mod BarrierKept
mod PathLemmas
mod Refused
mod Accepted
mod Served
pub mod Sequential
mod Guarded
pub mod Reordered
pub mod ReorderedCoherent
pub mod Buffers
mod Senders
pub mod Channels
