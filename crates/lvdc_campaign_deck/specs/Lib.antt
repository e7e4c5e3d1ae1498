pub mod Scripts
pub mod Campaign
pub mod Faults
pub mod Study
