-- what public contracts rest on
pub mod Places
pub mod Rules
pub mod Spots
pub mod Whys
