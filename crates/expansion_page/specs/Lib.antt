-- what the public contracts rest on
pub mod Pages
pub mod Steps
