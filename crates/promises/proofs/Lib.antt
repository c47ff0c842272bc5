pub mod RefusingLaws
pub mod Demand1
pub mod Demand2
pub mod Demand3
pub mod Save
pub mod Bench
pub mod Boundary
pub mod Exported
