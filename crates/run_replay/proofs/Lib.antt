pub mod Forms
pub mod Found
pub mod Single
pub mod ToldCopies
pub mod ToldMails
pub mod ToldRuns
pub mod UnderWay
