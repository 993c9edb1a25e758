pub mod AnswerLemmas
pub mod Commands
pub mod DenovoRows
pub mod Dots
pub mod RowLemmas
pub mod SeedRuns
mod SpreadLemmas
pub mod Tallies
pub mod TallyTexts
pub mod ReadLemmas
