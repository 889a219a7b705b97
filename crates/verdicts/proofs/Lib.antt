pub mod Blocks
pub mod Exactly
pub mod Grades
