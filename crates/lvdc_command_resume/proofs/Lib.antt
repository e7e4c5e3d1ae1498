pub mod Unplugged
pub mod Taking
pub mod Told
pub mod Resumed
pub mod Replied
pub mod Consumed
pub mod Went
pub mod Onward
pub mod InAnyOrder
pub mod Reordering
pub mod Statuses
mod RestoreRows
