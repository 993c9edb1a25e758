pub mod Advance
pub mod Document
pub mod Faults
pub mod Lines
pub mod Refusal
pub mod Replay
