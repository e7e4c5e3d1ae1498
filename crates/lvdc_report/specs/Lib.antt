pub mod Report
pub mod Voted
