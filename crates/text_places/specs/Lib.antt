pub mod Lines
pub mod Places
pub mod Texts
pub mod Walk
pub mod Words
