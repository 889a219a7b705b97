pub mod Recorded
pub mod Sheets
pub mod Steps
pub mod Walks
