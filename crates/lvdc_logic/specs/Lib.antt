pub mod Counts
pub mod Latching
pub mod Logic
pub mod Seven
pub mod Harmed
