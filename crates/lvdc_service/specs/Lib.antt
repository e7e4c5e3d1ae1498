pub mod Served
pub mod Service
pub mod Turns
pub mod Frames
pub mod Parts
pub mod Reading
