pub mod Cuts
pub mod Fields
pub mod LineSteps
pub mod Following
pub mod Forms
pub mod Programs
pub mod Labels
mod Rows
