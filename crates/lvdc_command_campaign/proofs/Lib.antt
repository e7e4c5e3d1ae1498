mod Runnable
pub mod Admitted
mod Rows
mod SameRows
