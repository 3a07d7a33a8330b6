-- What a caller must believe, by subject.
pub mod Prefixes
pub mod Defaults
pub mod Fields
pub mod Dates
pub mod Times
pub mod DateTimes
pub mod Durations
pub mod Calendar
pub mod Moments
pub mod Written
pub mod WrittenDurations
pub mod Ranges
pub mod Lengths
pub mod inside
