pub mod Rows
pub mod Sitting
pub mod Shown
pub mod Seated
