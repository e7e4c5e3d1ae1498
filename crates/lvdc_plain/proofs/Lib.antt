mod Rows
pub mod Runs
pub mod Effects
pub mod Instructions
pub mod Lefts
pub mod Causes
pub mod Steps
mod Calls
