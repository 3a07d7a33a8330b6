-- What a caller must believe, by subject.
pub mod Dates
pub mod Times
pub mod Offsets
pub mod Datetimes
pub mod Tokens
pub mod Faults
pub mod Checks
pub mod Orders
pub mod Reading
pub mod Texts
pub mod WellFormed
pub mod inside
