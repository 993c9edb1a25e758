pub mod Barrier
pub mod Letters
