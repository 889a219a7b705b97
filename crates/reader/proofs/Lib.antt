pub mod Pieces
pub mod Naming
mod Spoken
pub mod Entered
mod Known
mod Taken
