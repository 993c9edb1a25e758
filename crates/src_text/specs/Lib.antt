pub mod Byte
pub mod Number
pub mod Lexeme
pub mod Line
pub mod Register
pub mod RegisterName
pub mod Laws
