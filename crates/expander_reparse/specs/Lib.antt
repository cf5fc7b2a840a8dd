-- what the functions inside the crate promise each other
pub mod SegmentTrees
pub mod RelativePieces
pub mod Segments
pub mod Reparsing
pub mod ParsedTexts
pub mod ByteStores
pub mod RecentPieces
