-- what public contracts rest on
pub mod Protocol
pub mod Workspaces
pub mod Steps
pub mod Serving
-- what the functions inside the crate promise each other
pub mod Turns
