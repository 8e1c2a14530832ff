mod Nonzeros
pub mod Fronts
pub mod BlocksBack
mod PapersBack
mod Parts
mod RecordsBack
pub mod Sound
mod Steps
mod ToCome
