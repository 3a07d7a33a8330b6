-- What a caller must believe, by subject.
pub mod Pieces
pub mod Dates
pub mod Timestamps
pub mod Values
pub mod Written
pub mod inside
