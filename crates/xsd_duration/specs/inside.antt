-- What private contracts alone cite, by subject.
pub mod Reading
pub mod Numbers
pub mod Fronts
pub mod Writing
