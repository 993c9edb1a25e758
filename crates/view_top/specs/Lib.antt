pub mod Answers
pub mod Command
pub mod Kept
pub mod Status
pub mod Tasks
