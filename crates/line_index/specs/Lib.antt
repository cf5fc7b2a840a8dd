-- what public contracts rest on
pub mod Lines
-- what the functions inside the crate promise each other
pub mod LineEnds
