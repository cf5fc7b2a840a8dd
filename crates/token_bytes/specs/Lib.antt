-- what the public contracts use: lists of tokens, the record of a token, the records and the table
-- of a list, the tokens of a run
pub mod TokenLists
pub mod Records
pub mod Packing
pub mod Runs
pub mod Items
-- what the functions inside the crate, and those of `tt`, promise each other
pub mod Marks
pub mod Lists
pub mod Anchors
pub mod Leaves
pub mod Packed
pub mod Starts
pub mod Numbers
pub mod Relabelled
