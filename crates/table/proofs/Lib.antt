pub mod Counted
pub mod Reading
pub mod Changing
pub mod Reversing
pub mod Resizing
pub mod Posting
pub mod Narrowing
pub mod Asking
