mod ActorLemmas
mod CoreEvents
mod EndLists
mod KeptLemmas
pub mod LeftLemmas
mod Letters
mod ListItems
mod Listed
pub mod LogLemmas
mod MailEvents
mod Making
pub mod Noted
pub mod OneSetting
mod Opened
pub mod OwnEvent
mod OwnRow
pub mod PartsLemmas
pub mod PickLaws
pub mod RunLemmas
pub mod ScheduleLaws
mod Staying
mod TriedLemmas
