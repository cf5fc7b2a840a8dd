-- where partial readings stop, and what they want there
pub mod Stops
-- what the code has for what is wanted, and the words for it
pub mod Wants
pub mod Words
-- which token is where so many steps are left, and what is told of the rules of a definition
pub mod Distances
pub mod Rules
-- what the functions inside promise each other
pub mod Levels
pub mod Surveys
pub mod Searches
pub mod Moves
-- what crates above name too of those below
pub use Rattle.mbe.specs as mbe
