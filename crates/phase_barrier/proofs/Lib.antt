pub mod Flags
pub mod ArrivalLemmas
pub mod CountLemmas
pub mod LetterLemmas
