pub mod Bits
pub mod Items
pub mod Runs
pub mod Declared
