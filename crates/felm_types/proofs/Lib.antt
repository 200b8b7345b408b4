pub mod Lifts
pub mod Typings
pub mod Programs
pub mod FirstFaults
