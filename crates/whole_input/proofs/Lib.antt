-- Lemmas by subject.
pub mod FirstByte
pub mod Numbering
pub mod Outcomes
pub mod SlicesFilled
