pub mod Bits
pub mod SignatureLemmas
