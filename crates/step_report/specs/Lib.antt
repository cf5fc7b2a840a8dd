-- steps
pub use Rattle.expander_trace.specs.Steps
-- lines that tell of steps
pub mod Positions
pub mod Texts
pub mod Shown
pub mod Places
pub mod Asked
pub mod Layout
pub mod Bound
pub mod Notes
pub mod BoundLines
pub mod Lines
-- JSON that tells of them
pub mod Tokens
pub mod BoundValues
pub mod NoteValues
pub mod Values
pub mod Json
-- whether a call stays for a fault; what is told of a text
pub mod Faults
pub mod Answers
-- what the functions inside the crate promise each other
pub mod NotesGiven
pub mod Spots
-- what crates above name too of those below
pub use Rattle.expander_trace.specs as expander_trace
