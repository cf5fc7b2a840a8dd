pub mod BlockFields
pub mod CountedBlock
pub mod OwnerWalks
pub mod TokenEntry
