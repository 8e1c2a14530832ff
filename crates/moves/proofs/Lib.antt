pub mod Visits
pub mod Trees
pub mod Traversals
pub mod Moved
pub mod Walks
pub mod Refuting
pub mod Placing
