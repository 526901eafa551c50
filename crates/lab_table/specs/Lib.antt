pub mod IsTable
pub mod TableText
pub mod Unbound
pub mod Printed
pub mod PlanRow
