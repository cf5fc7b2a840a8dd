-- what the public contracts use
pub mod Views
pub mod Elements
pub mod Savepoints
pub mod FirstTrees
pub mod Glued
pub mod Tops
pub mod Places
pub mod Splitting
pub mod Groups
pub mod Building
pub mod Rewriting
pub mod Relabelling
pub mod Texts
pub mod TokenLiterals
-- the definitions of `token_bytes` that these use
pub use Rattle.token_bytes.specs.TokenLists
-- what the functions inside the crate promise each other
pub mod BuilderTokens
pub mod Anchors
pub mod CursorTokens
pub mod Styles
pub mod Walking
