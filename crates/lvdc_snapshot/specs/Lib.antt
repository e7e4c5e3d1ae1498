pub mod Notes
pub mod Snapshot
