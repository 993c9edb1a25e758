pub mod Json
pub mod Rows
pub mod Program
pub mod Page
pub mod Data
