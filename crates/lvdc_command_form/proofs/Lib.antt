mod Rows
mod Clear
mod Plain
mod Telling
pub mod Alike
