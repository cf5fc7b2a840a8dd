-- what the contracts use, in reading order
pub mod Tokens
pub mod Names
pub mod Expressions
pub mod Rules
pub mod Answer
pub mod Outcomes
-- the answer keeps the laws of a grammar
pub mod Passing
pub mod Laws
-- what the functions inside the crate promise each other
pub mod Table
pub mod Classes
pub mod Starts
pub mod Frames
pub mod Opened
pub mod Turns
