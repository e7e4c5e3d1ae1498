pub mod Apart
pub mod Blocks
pub mod Fitting
pub mod Placement
pub mod Search
pub mod Slot
pub mod Slots
pub mod Faults
