pub mod Steps
pub mod Votes
pub mod Traces
pub mod Going
pub mod Plainly
pub mod Answers
pub mod Replies
