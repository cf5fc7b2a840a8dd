-- the rules of a definition, in reading order
pub mod Text
pub mod Trees
pub mod Items
pub mod Parsed
pub mod Repetitions
pub mod Expressions
pub mod Patterns
pub mod Parsing
pub mod Editions
-- what the code's rules mean, when two are equal, and rules under a span map
pub mod Ops
pub mod Likeness
pub mod Equality
pub mod Relabelling
-- errors' texts, styles of calls as bits, and what clones must be
pub mod Messages
pub mod Styles
pub mod Clones
pub mod PlacedErrors
-- what the functions inside the crate promise each other
pub mod Steps
pub mod Reading
pub mod Lists
pub mod Copying
pub mod Comparing
pub mod Counts
pub mod Walks
