pub mod Left
pub mod Rows
pub mod Queues
pub mod Runs
pub mod Ends
pub mod Laws
