-- What a caller must believe, by subject.
pub mod Names
pub mod Fields
pub mod DateTimes
pub mod HttpDate
pub mod MailDate
pub mod Written
pub mod Readings
pub mod inside
