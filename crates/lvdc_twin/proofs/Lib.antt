pub mod Holding
pub mod Loading
pub mod Mending
pub mod Places
mod Shown
mod TwinRows
pub mod Writes
