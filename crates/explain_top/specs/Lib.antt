pub mod Command
pub mod Texts
pub mod Answers
pub mod Serving
