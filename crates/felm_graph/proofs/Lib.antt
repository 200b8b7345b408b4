pub mod ValueTypes
pub mod Earlier
pub mod Replays
pub mod LayableTerms
pub mod Sound
pub mod Whole
pub mod Finishes
