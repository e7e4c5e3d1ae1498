pub mod Actives
mod Coding
mod FaultRows
pub mod Lists
pub mod Lowest
pub mod Parts
pub mod Placing
