pub mod Causes
mod ReplayedRun
pub mod RunOf
