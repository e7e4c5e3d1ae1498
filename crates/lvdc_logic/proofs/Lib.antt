pub mod HurtsFit
pub mod Differing
pub mod Listed
pub mod Named
pub mod Numbers
pub mod Under
pub mod Commits
pub mod Alike
pub mod Harmed
pub mod Unanimous
mod Rows
