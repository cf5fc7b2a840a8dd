-- what the public contracts say
pub mod Names
pub mod Tables
pub mod Paths
pub mod Trees
pub mod Rounds
pub mod Offers
-- what the functions inside the crate promise each other
pub mod Entries
