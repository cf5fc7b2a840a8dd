-- what metavariables stand for in a call, where rustc refuses it, and what the values of the code
-- are
pub mod BoundValues
pub mod Notes
pub mod BoundRules
pub mod Given
-- what the functions inside the crate promise each other
pub mod Open
pub mod Names
pub mod Walks
