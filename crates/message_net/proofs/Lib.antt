pub mod PoolLemmas
pub mod MailLemmas
pub mod Orders
