pub mod Counts
pub mod Pigeons
pub mod Fewer
pub mod Decided
pub mod Full
