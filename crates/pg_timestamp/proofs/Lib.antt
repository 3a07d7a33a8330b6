-- Lemmas by subject.
pub mod PieceFacts
pub mod YearFacts
pub mod OffsetFacts
pub mod TimeFacts
pub mod MicrosFacts
pub mod PlaceFacts
pub mod ValueFacts
pub mod MomentFacts
pub mod WrittenFacts
pub mod HeldFacts
pub mod BoundFacts
pub mod DayFacts
pub mod OneText
pub mod AsciiTexts
