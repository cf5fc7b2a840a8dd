-- what public contracts rest on
pub mod Frames
pub mod Streams
