-- what the words of a command line ask for
pub mod Choices
pub mod Commands
