pub mod Answers
pub mod Plainly
pub mod Texts
