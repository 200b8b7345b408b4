pub mod Positions
pub mod Contents
pub mod Moves
pub mod Holds
pub mod Laws
pub mod EngineLaws
pub mod Instances
