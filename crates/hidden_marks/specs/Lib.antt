-- which characters are hidden, and the marks that show them
pub mod Marks
