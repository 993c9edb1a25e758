pub mod Clock
pub mod TimeOrder
pub mod Flights
pub mod Choices
pub mod Actors
pub mod Run
pub mod Laws
