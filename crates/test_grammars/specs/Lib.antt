-- what these grammars answer
pub mod Fakes
-- that the answers keep the laws of a grammar
pub mod FakeLaws
