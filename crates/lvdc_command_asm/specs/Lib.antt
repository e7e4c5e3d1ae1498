pub mod Answers
pub mod Expanded
