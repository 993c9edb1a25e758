pub mod Claims
pub mod CommonRuns
pub mod HandedBack
pub mod Holding
pub mod MoreFuel
pub mod Taken
