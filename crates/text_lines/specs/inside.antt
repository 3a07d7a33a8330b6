-- What private contracts alone cite, by subject.
pub mod Answering
pub mod Words
