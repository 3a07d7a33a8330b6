-- What a caller must believe, by subject.
pub mod Durations
pub mod Written
pub mod Readings
pub mod inside
