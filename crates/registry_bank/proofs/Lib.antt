pub mod BankLemmas
pub mod Strides
pub mod ChangeLemmas
pub mod Opened
pub mod RowLemmas
pub mod KeptLemmas
