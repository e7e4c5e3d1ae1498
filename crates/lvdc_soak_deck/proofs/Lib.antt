pub mod Soaking
mod Rows
