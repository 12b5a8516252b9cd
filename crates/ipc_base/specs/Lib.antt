pub mod Memory
pub mod Faults
pub mod Lines
pub mod Ports
pub mod LogViews
pub mod LogRules
