pub mod Checks
pub mod Faults
pub mod Headers
pub mod Reading
pub mod Records
pub mod Walking
pub mod Writing
