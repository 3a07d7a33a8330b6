-- What private contracts alone cite, by subject.
pub mod Steps
pub mod Written
pub mod Waiting
pub mod Answers
pub mod OneReply
