pub mod EdgesValue
pub mod Changes
pub mod Parts
pub mod Copies
pub mod Readers
pub mod Inside
