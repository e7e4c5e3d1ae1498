pub mod Cell
pub mod Word
pub mod Results
pub mod Counts
