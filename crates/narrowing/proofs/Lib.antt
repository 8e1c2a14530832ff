mod Clearing
mod Lowering
pub mod Resized
