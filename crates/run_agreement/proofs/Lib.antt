pub mod Acting
pub mod AgreedOutcomes
pub mod AgreedRuns
pub mod Agreeing
mod Appending
pub mod Beginning
mod Choosing
pub mod CoreByCore
pub mod EndAgrees
mod FlatGrants
pub mod FreeLocks
pub mod Granting
mod Growing
pub mod Halting
pub mod Holding
mod Interleaved
mod Interleaves
pub mod Keeping
pub mod MoreFuel
mod NextGrant
pub mod Nodes
pub mod Opened
pub mod Ordered
pub mod Phases
pub mod Places
mod Poised
mod PoisedWorlds
pub mod PrefixAgrees
pub mod Quiet
mod Reaching
pub mod Resting
pub mod Settled
pub mod Shown
pub mod Standing
mod Takers
pub mod TaskEnds
pub mod Told
mod Turns
mod Waits
