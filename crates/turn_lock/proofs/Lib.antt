pub mod Called
pub mod Ends
pub mod Fresh
pub mod Hands
pub mod Keeps
pub mod Lists
pub mod Moves
