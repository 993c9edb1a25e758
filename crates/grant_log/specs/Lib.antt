pub mod Counts
pub mod Inbox
pub mod Log
pub mod Order
pub mod Stamps
