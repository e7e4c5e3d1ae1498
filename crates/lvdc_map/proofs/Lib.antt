pub mod Addresses
pub mod Holders
pub mod HopLaws
mod MapRows
pub mod Images
pub mod Paging
pub mod Unions
