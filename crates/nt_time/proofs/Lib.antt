-- Lemmas by subject.
pub mod CivilLemmas
pub mod TextLemmas
pub mod TickLemmas
pub mod AsciiTexts
