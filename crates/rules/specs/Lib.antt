pub mod Loops
pub mod Rows
pub mod Rules
pub mod Search
pub mod Single
pub mod Tables
