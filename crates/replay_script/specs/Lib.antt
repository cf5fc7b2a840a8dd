pub mod Words
pub mod Scripts
pub mod Picks
pub mod Progress
pub mod Told
pub mod Written
pub mod Replays
-- what the functions inside the crate promise each other
pub mod LineReads
pub mod SourceTables
pub mod LineTurns
