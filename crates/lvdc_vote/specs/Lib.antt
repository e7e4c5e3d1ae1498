pub mod Bits
pub mod Latches
pub mod Copies
pub mod Numbers
pub mod Differences
pub mod Harms
