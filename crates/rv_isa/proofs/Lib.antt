pub mod WordLemmas
pub mod RowLemmas
pub mod FormatLemmas
pub mod EncodingLemmas
