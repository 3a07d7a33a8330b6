-- What a caller must believe, by subject.
pub mod Digits
pub mod Fronts
pub mod Fields
pub mod Blanks
pub mod Join
pub mod Count
pub mod Number
pub mod Shares
pub mod ShareSteps
pub mod Calendar
pub mod Sums
pub mod Padded
pub mod Scanning
pub mod Runs
pub mod inside
