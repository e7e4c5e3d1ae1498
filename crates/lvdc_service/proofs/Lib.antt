mod Written
mod Serving
mod Inputs
mod Determined
mod Wholly
mod Rows
pub mod Uses
pub mod CutLines
pub mod Following
mod Splitting
mod Windows
mod Heads
mod FrameRows
mod Apart
