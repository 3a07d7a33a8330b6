-- Lemmas by subject.
pub mod LineParts
pub mod FieldPlaces
pub mod SpacedPlaces
pub mod WeakerOutputs
pub mod Judging
pub mod JudgedEnds
pub mod AskedWords
pub mod OneOutput
