pub mod Transfers
pub mod Digits
pub mod FirstParts
pub mod Bounds
pub mod Places
pub mod Texts
pub mod Joining
pub mod LinesBefore
mod Found
pub mod ReadBack
mod Rows
pub mod Founds
mod Tries
