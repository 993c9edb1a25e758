pub mod Compared
pub mod Standing
pub mod Verdict
