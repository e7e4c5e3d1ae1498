pub mod Tables
pub mod Naming
pub mod Lining
pub mod Meant
pub mod Imaging
pub mod Known
pub mod Counts
mod Rows
mod SourceRows
