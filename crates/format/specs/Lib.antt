pub mod Format
pub mod Entered
pub mod Faults
pub mod Theorems
pub mod Example
pub mod Messages
pub mod Names
pub mod Named
