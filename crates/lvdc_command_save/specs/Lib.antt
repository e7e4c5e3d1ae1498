pub mod Snapshots
pub mod States
pub mod Answers
pub mod Replies
pub mod Statuses
pub mod Halves
