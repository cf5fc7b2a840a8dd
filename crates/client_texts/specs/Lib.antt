-- what public contracts rest on
pub mod Params
pub mod Texts
pub mod Views
