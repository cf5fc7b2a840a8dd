-- what the public contracts rest on
pub mod Escaping
pub mod Parts
pub mod Tokens
pub mod SourceParts
pub mod Origins
pub mod ExpansionParts
pub mod Numbers
pub mod PageParts
-- what the functions inside promise each other
pub mod Places
