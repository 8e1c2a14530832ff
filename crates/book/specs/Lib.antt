pub mod Answers
pub mod Books
pub mod Worked
