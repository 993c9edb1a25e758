pub mod Kind
pub mod Id
pub mod Pool
pub mod Mail
pub mod Order
