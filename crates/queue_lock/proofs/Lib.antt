pub mod LockLemmas
pub mod RowLemmas
