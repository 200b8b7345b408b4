pub mod Rows
pub mod Waits
pub mod Runs
pub mod EndLaws
