-- What a caller must believe, by subject.
pub mod Fields
pub mod Spaced
pub mod Places
pub mod Outputs
pub mod Ends
pub mod Answering
pub mod Asked
pub mod inside
