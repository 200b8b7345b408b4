pub mod Refusals
pub mod Graphs
pub mod Texts
pub mod Outcomes
