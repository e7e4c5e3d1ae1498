pub mod Copies
pub mod Cells
pub mod Leaves
pub mod Relation
pub mod Laws
pub mod Ends
