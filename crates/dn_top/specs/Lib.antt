pub mod Answers
pub mod Command
pub mod Documents
pub mod Laws
pub mod Runs
pub mod Serving
