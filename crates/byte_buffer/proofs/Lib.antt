pub mod BlockWalks
pub mod ResizeWalks
