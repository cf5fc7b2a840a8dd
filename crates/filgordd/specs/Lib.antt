-- what the functions inside a program promise each other
pub mod Conditions
pub mod Warnings
