pub mod Cache
pub mod Row
