pub mod Looks
pub mod Changes
pub mod Events
pub mod Since
pub mod Applied
pub mod Leads
