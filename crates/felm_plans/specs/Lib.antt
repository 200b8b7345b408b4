pub mod Status
pub mod Faults
pub mod Plans
pub mod Laws
