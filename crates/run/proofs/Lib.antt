mod Calling
mod Papers
mod Printers
mod Printing
pub mod Running
mod Spelled
mod Written
