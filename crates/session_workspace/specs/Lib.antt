-- what public contracts rest on
pub mod Names
pub mod Ranges
pub mod Diagnostics
pub mod OpenTexts
pub mod Symbols
pub mod Serving
pub mod Layouts
pub mod Earlier
pub mod Actions
pub mod Steps
pub mod Questions
-- what the functions inside the crate promise each other
pub mod Losses
pub mod Refreshing
