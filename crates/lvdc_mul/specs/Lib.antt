pub mod Latches
pub mod Control
pub mod Unit
pub mod Landing
