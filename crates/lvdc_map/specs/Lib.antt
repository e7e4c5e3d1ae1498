pub mod Address
pub mod Banks
pub mod Hop
pub mod Memory
pub mod Place
pub mod Sectors
