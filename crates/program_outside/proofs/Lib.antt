pub mod Commands
pub mod Numerals
pub mod Replies
pub mod Wholes
