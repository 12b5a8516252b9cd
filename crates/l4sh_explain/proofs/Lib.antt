pub mod CallWells
pub mod NormalForms
pub mod TraceLines
pub mod Names
