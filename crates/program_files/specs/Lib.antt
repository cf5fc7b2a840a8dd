-- what the public contracts say
pub mod ModuleEnds
-- what the functions inside a program promise each other
pub mod EndsFound
pub mod Others
pub mod Picking
pub mod Shown
pub mod Sources
