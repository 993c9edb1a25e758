pub mod CutLemmas
pub mod LineLemmas
pub mod PlaceLemmas
pub mod SearchLemmas
pub mod SizeLemmas
pub mod WordLemmas
