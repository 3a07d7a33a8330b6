-- Lemmas by subject.
pub mod Answered
pub mod Cells
pub mod CivilInstants
pub mod Columns
pub mod Intervals
pub mod Names
pub mod Rooms
pub mod ScheduleAnswers
