-- Lemmas by subject.
pub mod Joins
pub mod AsciiFacts
pub mod DigitFacts
pub mod FrontFacts
pub mod RoundingFacts
pub mod Between
pub mod Scans
pub mod RunFacts
pub mod PackedFacts
pub mod Spending
pub mod ShareFacts
pub mod Signs
pub mod FitFacts
pub mod SumFacts
pub mod WordFacts
pub mod PaddedFacts
pub mod TrimmedFacts
