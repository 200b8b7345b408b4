pub mod Cuts
pub mod Fits
pub mod Judged
pub mod Lines
pub mod NameTables
pub mod Refusals
pub mod Steps
