pub mod ExitCodes
pub mod Numbers
pub mod Outside
pub mod Serving
pub mod Statuses
pub mod Words
