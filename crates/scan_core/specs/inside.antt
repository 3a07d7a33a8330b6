-- What private contracts alone cite, by subject.
pub mod Classes
pub mod Bounds
