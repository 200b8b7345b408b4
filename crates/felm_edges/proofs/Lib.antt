pub mod Wiring
pub mod Rows
pub mod Copies
pub mod Reading
pub mod Writing
pub mod Sending
pub mod ReadersOfNodes
pub mod NewEdges
