mod RowLemmas
mod StartLemmas
mod CloseLemmas
mod HallLemmas
mod HallStart
pub mod EndLemmas
pub mod HandlingLemmas
pub mod ActorHandlings
