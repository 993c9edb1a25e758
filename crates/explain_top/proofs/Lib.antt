mod Commands
pub mod Starved
pub mod ReadLemmas
