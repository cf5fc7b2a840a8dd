-- the parts of a message about a range of a text; which rule of a call is nearest to a match, and
-- what is added about the call
pub mod Plain
pub mod Unfits
-- how the rules of a call's definition take its argument; where they stop, and where what they want
-- stands
pub mod Knowns
pub mod Units
pub mod Places
-- what crates above name too of those below
pub use Rattle.expander_model.specs as expander_model
