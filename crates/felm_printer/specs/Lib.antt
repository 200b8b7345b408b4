pub mod Status
pub mod Fault
pub mod Results
pub mod Sources
pub mod Terms
pub mod Graphs
pub mod Names
pub mod Laws
