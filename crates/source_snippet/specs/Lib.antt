-- the lines of a message
pub mod Characters
pub mod Underlines
pub mod Messages
-- the line of a text in which a byte is
pub mod Lines
