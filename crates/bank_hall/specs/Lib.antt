pub mod Banks
pub mod Ports
pub mod Note
pub mod Keepers
pub mod Rows
pub mod Halls
pub mod Closing
pub mod Handlings
