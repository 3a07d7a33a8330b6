-- Lemmas, by subject.
pub mod Ranges
pub mod CivilDays
pub mod Starts
pub mod Listed
pub mod SeriesLaws
pub mod Millis
pub mod Texts
pub mod Asking
pub mod Joined
pub mod SeriesReplies
pub mod OneReply
pub mod Outputs
