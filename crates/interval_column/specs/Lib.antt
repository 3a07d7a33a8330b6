-- What a caller must believe, by subject.
pub mod Order
pub mod Lines
pub mod Columns
pub mod Readings
pub mod Output
pub mod inside
