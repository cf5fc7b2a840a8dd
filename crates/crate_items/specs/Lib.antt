-- what the public contracts say
pub mod Attributes
pub mod Extents
pub mod Heads
pub mod Imports
pub mod ImportEvents
pub mod Items
pub mod Opened
pub mod Reading
