pub mod BlocksApart
pub mod Caps
pub mod Distinct
pub mod Least
pub mod LinesApart
pub mod Placed
pub mod Programs
pub mod Reserved
mod Rows
pub mod Runs
pub mod Sizes
pub mod Starts
pub mod Steps
pub mod Tables
pub mod Walks
pub mod Whole
