pub mod RunEnds
pub mod Exact
pub mod Outcomes
pub mod Clauses
