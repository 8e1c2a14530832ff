mod Digits
pub mod Puts
