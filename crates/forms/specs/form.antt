-- The words of each form.
pub mod FileTime
pub mod IsoDate
pub mod IsoDateTime
pub mod IsoDuration
pub mod Toml
pub mod Fancy
pub mod Intervals
pub mod Unix
pub mod PgTimestamp
pub mod InternetDates
pub mod XsdDuration
