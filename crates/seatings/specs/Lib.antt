pub mod Counts
pub mod Seatings
pub mod Closed
