pub mod ActorLemmas
pub mod CountLemmas
pub mod MadeLemmas
pub mod MergeLemmas
pub mod OrderLemmas
pub mod SameLemmas
pub mod TotalLemmas
