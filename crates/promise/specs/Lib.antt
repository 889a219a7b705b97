pub mod Serving
pub mod Whole
