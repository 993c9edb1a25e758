pub mod Each
pub mod Exact
pub mod Followed
pub mod Held
pub mod Listed
pub mod StepByStep
pub mod Steps
pub mod UnderRegions
