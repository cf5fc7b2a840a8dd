-- what the public contracts say
pub mod Folders
pub mod Files
pub mod Seeking
pub mod Walks
pub mod Modules
pub mod Scopes
pub mod Closing
pub mod WholeTexts
-- what the functions inside the crate promise each other
pub mod Tables
pub mod Frames
pub mod Marks
pub mod Joining
