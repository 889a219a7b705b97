pub mod Exact
pub mod Filling
pub mod Searches
pub mod Verdicts
