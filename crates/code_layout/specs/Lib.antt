-- what the public contracts rest on
pub mod Words
-- what the functions inside promise each other
pub mod Places
