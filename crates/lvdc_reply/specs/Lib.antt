pub mod Answer
pub mod Replies
