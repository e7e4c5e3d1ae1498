pub mod Causes
pub mod Device
pub mod Devices
pub mod Places
pub mod Supplies
pub mod Times
