-- What a caller must believe, by subject.
pub mod Parts
pub mod Items
pub mod Times
pub mod Sums
pub mod Meanings
pub mod Strict
pub mod Spelled
pub mod Breakdown
pub mod Written
pub mod Collisions
pub mod Durations
pub mod inside
