pub mod Outcomes
pub mod Study
pub mod Failures
pub mod Waypoints
pub mod Rejoins
