-- What a caller must believe, by subject.
pub mod Instants
pub mod Series
pub mod Requests
pub mod Replies
pub mod inside
