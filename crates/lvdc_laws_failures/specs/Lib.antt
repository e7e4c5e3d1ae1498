pub mod Listeners
pub mod Split
pub mod Steps
pub mod Orders
pub mod Scripts
pub mod Laws
pub mod Limits
