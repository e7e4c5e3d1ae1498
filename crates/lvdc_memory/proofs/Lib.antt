pub mod Begun
mod Carrying
mod Changing
mod Joining
mod OnMemory
mod Ordered
mod PartLaws
mod Rows
mod Sorted
mod Soundness
