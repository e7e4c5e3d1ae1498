pub mod Joins
pub mod PartLaws
mod Rows
