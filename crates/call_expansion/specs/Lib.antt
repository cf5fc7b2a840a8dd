-- what the public contracts say
pub mod Around
pub mod Answers
pub mod Texts
-- what the functions inside the crate promise each other
pub mod Passing
pub mod InScope
