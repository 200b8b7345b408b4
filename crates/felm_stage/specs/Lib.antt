pub mod Frames
pub mod Redex
pub mod Moves
pub mod Outcome
