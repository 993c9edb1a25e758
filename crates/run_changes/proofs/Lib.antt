mod Alone
pub mod Listed
pub mod Made
mod Sent
mod Applied
mod Cached
mod Looked
mod Led
mod Status
mod Task
mod Homes
mod Locks
mod LockHomes
mod Keepers
mod Begun
mod Start
mod Shown
mod Whole
