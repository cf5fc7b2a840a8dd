pub mod SharedBlock
