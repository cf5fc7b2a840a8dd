-- what a text means where no list has definitions
pub mod TopLevelMeaning
-- what the laws rest on
pub mod Keywords
pub mod ScopeChanges
-- how much a call may make; no meaning takes it yet
-- what the functions inside a crate that expands by these promise each other
pub mod FromLeft
