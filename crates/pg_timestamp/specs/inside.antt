-- What private contracts alone cite, by subject.
pub mod Places
pub mod Days
pub mod Micros
