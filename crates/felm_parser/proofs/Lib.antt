pub mod Steps
pub mod ChainLoop
pub mod Weights
pub mod Spelled
pub mod Seen
pub mod Declares
pub mod Outcome
