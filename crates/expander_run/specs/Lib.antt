-- what the contracts of `Watched`, of `run` and of the lines rest on
pub mod Watch
pub mod Lines
pub mod Runs
pub mod Spots
-- what the functions inside the crate promise each other
pub mod Steps
-- what crates above name too of those below
pub use Rattle.expander_session.specs as expander_session
