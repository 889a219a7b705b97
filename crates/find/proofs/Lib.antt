pub mod Asks
pub mod Ends
pub mod Exactly
pub mod Going
pub mod Places
pub mod Seen
