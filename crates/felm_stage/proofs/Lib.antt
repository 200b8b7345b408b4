pub mod Plugs
pub mod Runs
pub mod Parts
pub mod Climbs
pub mod Searches
pub mod Ends
