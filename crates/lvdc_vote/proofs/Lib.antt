pub mod BitLaws
pub mod Votes
pub mod Differences
pub mod Orders
pub mod Harms
mod Rows
