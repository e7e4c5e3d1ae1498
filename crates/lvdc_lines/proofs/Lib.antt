mod Rows
pub mod LineLists
pub mod LineSizes
