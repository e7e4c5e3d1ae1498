pub mod Lines
pub mod Entries
pub mod Saved
pub mod Reading
pub mod Printed
pub mod Faults
pub mod Bounded
