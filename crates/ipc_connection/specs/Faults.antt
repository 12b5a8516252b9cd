-- The classes under which a FAULT tells the numbers of the faults.
-- Our choice (docs/FORMATS.md).
use Rattle.std.specs.Prelude.{ℕ}
pub use Rattle.ipc_frame.specs.FaultNumber.{fault_number}

-- the classes: K, F and S
abbrev pub of_kernel : ℕ
of_kernel = 0x4b

abbrev pub of_frame : ℕ
of_frame = 0x46

abbrev pub of_session : ℕ
of_session = 0x53

-- a frame that has no place at its stage: S1
abbrev pub out_of_place : ℕ
out_of_place = 1
