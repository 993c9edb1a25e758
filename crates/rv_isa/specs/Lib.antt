pub mod Word
pub mod Table
pub mod Row
pub mod Encoding
pub mod Range
pub mod Meaning
