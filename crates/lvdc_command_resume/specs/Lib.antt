pub mod Restore
pub mod Runs
pub mod Finished
pub mod Answers
pub mod Replies
pub mod GoesOn
pub mod Statuses
pub mod Reordered
