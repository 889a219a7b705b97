pub mod Cuts
pub mod Steps
pub mod Words
pub mod Numbers
pub mod Lines
pub mod Inks
pub mod Sound
mod Complete
mod Placed
pub mod OnLine
mod Local
