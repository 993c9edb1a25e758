pub mod LeastLemmas
pub mod CoreLemmas
pub mod FirstLemmas
pub mod FaultLemmas
pub mod SeparationLemmas
pub mod TakerLemmas
