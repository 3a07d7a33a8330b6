-- Lemmas by subject.
pub mod Readers
pub mod NameFacts
pub mod ClockFacts
pub mod DayFacts
pub mod HttpReading
pub mod MailReading
pub mod WrittenFacts
pub mod ReadBack
pub mod Judging
pub mod AsciiTexts
