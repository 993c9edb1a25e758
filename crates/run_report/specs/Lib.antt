pub mod Answer
pub mod Grants
pub mod Refusal
pub mod Run
pub mod Summary
pub mod Texts
