-- what the functions inside the crate promise each other
pub mod Blocks
pub mod Deeds
pub mod Places
