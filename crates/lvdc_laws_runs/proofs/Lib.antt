mod Following
mod Exchanged
mod Plainly
pub mod Idle
pub mod Steps
pub mod Runs
pub mod Judged
pub mod Machines
pub mod Spared
pub mod Counted
pub mod Staying
mod Replaying
mod Outside
mod Rejoining
mod Quiet
mod Rows
