-- what the public contracts say
pub mod Steps
pub mod Parts
pub mod Given
pub mod Laws
pub mod Texts
-- what the functions inside the crate promise each other
pub mod Trying
pub mod Numbered
pub mod Passing
-- what crates above name too of those below
pub use Rattle.call_expansion.specs as call_expansion
