pub mod Timer
pub mod Judging
pub mod Making
pub mod Arms
pub mod Again
pub mod Noting
pub mod Resuming
pub mod Standing
pub mod Blame
pub mod Ports
pub mod Frames
pub mod HandedOut
pub mod Telling
pub mod Starting
pub mod Calls
mod Rows
pub mod Refused
