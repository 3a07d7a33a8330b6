-- What a caller must believe, by subject.
pub mod Bits
pub mod DateTime
pub mod DateWord
pub mod Order
pub mod Text
pub mod TimeWord
pub mod Words
