pub mod HighLocks
pub mod Needs
pub mod Looks
pub mod DecodedLemmas
mod PlaceLemmas
pub mod HeldLemmas
pub mod Completions
mod Computing
