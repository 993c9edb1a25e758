pub mod Words
pub mod Program
pub mod Merging
pub mod Plan
pub mod Overlap
pub mod Tasks
pub mod Numbers
