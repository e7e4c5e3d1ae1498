pub mod Guarded
pub mod Early
pub mod Joined
pub mod Rejoined
