pub mod Answers
pub mod Batch
pub mod Command
pub mod Laws
pub mod Settled
pub mod Status
