-- What a caller must believe, by subject.
pub mod Codes
pub mod Columns
pub mod Intervals
pub mod Numbers
pub mod Rooms
pub mod Schedules
pub mod inside
