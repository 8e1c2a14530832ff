pub mod Queue
pub mod Tree
pub mod Traversal
pub mod Walk
pub mod Opening
pub mod Placed
