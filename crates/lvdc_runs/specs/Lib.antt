pub mod Scripts
pub mod Same
pub mod Ran
pub mod Stations
pub mod Window
