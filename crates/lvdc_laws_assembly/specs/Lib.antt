pub mod Holds
pub mod Images
pub mod Lines
pub mod Shown
