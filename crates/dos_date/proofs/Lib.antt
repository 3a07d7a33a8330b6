-- Lemmas by subject.
pub mod BitFields
pub mod DateWordLemmas
pub mod TextLemmas
