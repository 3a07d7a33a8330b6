-- Lemmas by subject.
pub mod Counts
pub mod Spellings
pub mod NumberFacts
pub mod Passes
pub mod SumFacts
pub mod Denoted
pub mod WrittenFacts
pub mod ReadBack
pub mod AsciiTexts
