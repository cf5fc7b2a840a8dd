-- what the contracts use, in reading order
pub mod Text
pub mod Tokens
pub mod Expressions
pub mod SmallGrammar
pub mod Answer
pub mod Outcomes
-- the answer keeps the laws of a grammar
pub mod Passing
pub mod Rules
pub mod Laws
-- what the functions inside the crate promise each other
pub mod Signs
pub mod Levels
