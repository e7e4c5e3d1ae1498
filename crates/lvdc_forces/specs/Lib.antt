pub mod Untouched
pub mod InForce
pub mod Shares
pub mod Parts
