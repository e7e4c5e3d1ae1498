pub mod Commands
pub mod Breaks
pub mod Session
pub mod Standing
pub mod Room
pub mod Answers
pub mod Replies
