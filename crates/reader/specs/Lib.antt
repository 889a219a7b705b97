pub mod Names
pub mod Pieces
pub mod Says
pub mod Going
