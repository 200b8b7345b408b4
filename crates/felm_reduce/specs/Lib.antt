pub mod Frames
pub mod Redex
pub mod Search
pub mod Outcome
