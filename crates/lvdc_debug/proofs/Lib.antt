pub mod Lengths
pub mod Lines
pub mod Going
pub mod Showing
pub mod Resting
pub mod Entries
pub mod Spent
pub mod Spread
mod SessionRows
pub mod Making
pub mod Endings
pub mod Sessions
pub mod Replies
pub mod Statuses
