pub mod Calling
pub mod Dealing
pub mod History
pub mod Passes
pub mod Slots
pub mod Standing
pub mod Steps
pub mod Turns
