pub mod Sections
pub mod Deck
pub mod Loading
pub mod Moving
pub mod Faults
pub mod Named
