-- What private contracts alone cite, by subject.
pub mod Bounds
pub mod Labels
pub mod Ranks
