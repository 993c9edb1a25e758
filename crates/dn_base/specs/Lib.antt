pub mod Status
pub mod Faults
pub mod Flushes
pub mod Memories
pub mod Device
