pub mod Digits
pub mod Fields
pub mod Forms
pub mod Rows
pub mod Words
