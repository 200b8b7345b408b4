pub mod DiskFaults
pub mod NamedTexts
