pub mod HeapBoxes
pub mod MachineWords
pub mod WalkWords
