-- what a matcher reads of an argument, and what it binds, in reading order
pub mod Grammar
pub mod Units
pub mod Fragments
pub mod Paths
pub mod Readings
pub mod Bindings
-- the error where a fragment is missing
pub mod Missing
-- how the code has readings and bindings, for `match_pattern`, `bindings_of` and `Bindings`
pub mod Frames
pub mod Threads
pub mod Bound
-- what the functions inside the crate promise each other, and the crates above
pub mod Waiting
pub mod Positions
pub mod Places
pub mod Settled
pub mod Steps
pub mod Numbers
pub mod SeenStates
pub mod Rounds
pub mod Ways
pub mod Going
pub mod Blocked
pub mod Skipping
pub mod Counts
pub mod Collecting
-- what crates above name too of those below
pub use Rattle.fragment_grammar.specs as fragment_grammar
