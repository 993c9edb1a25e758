pub mod Statement
pub mod Instruction
pub mod Listing
pub mod Law
