-- what the functions inside a program promise each other: the grammar's answer
pub mod Items
-- that the answer keeps the laws of a grammar
pub mod ItemLaws
