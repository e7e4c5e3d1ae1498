mod Rows
mod SavedRows
pub mod Onward
pub mod Making
pub mod Faithful
pub mod Lengths
pub mod Telling
pub mod Answering
pub mod Untelling
pub mod Resuming
pub mod NoDeck
