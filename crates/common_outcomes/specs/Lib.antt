pub mod Values
pub mod Alone
pub mod Phases
pub mod Answer
pub mod Agreeing
pub mod Laws
pub mod Apart
