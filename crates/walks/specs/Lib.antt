pub mod Logs
pub mod Law
pub mod Standing
pub mod Sought
pub mod Rows
pub mod Ready
