pub mod Adding
pub mod Made
pub mod Between
pub mod Due
pub mod Holding
pub mod Reading
