-- the unit in which a grammar's answer counts
pub mod Steps
