-- what the contracts use
pub mod Answer
-- that the answer keeps the laws of a grammar
pub mod Laws
