-- what the public contracts say
pub mod Editions
pub mod First
pub mod Picks
pub mod Seen
pub mod SourcePicks
