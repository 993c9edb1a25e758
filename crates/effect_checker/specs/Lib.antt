pub mod Checked
pub mod Faults
pub mod Least
pub mod Takers
