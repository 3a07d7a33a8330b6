-- Lemmas, by subject.
pub mod Total
pub mod OneColumn
pub mod Labels
pub mod LinesRead
pub mod OneReading
pub mod OneOutput
pub mod Texts
pub mod Ranks
pub mod Adding
pub mod Putting
