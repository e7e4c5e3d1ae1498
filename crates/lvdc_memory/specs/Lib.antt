pub mod Changes
pub mod Events
pub mod Faults
pub mod Holds
pub mod News
pub mod OnMemory
pub mod Order
pub mod Parts
