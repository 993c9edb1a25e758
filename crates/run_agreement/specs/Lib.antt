pub mod Agreed
pub mod Cores
pub mod Ends
pub mod Fronts
pub mod Reached
pub mod Worlds
pub mod Interleaving
