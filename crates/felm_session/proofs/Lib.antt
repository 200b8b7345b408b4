pub mod Stepping
pub mod Entering
pub mod Fullness
pub mod Settling
pub mod Running
pub mod Ending
pub mod Alike
pub mod Crosses
