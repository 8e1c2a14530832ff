pub mod Runs
pub mod Account
pub mod Replayed
