-- The faults of a port.
use Rattle.std.specs.Prelude.{ℕ, List, codes}
use Rattle.ipc_base.specs.declared.fault.PortFault.{PortFault}
use Rattle.ipc_base.specs.declared.fault.PortFault.TheVariants.{DeviceFailed, Interrupted}

-- the number of a fault, printed after F
abbrev pub fault_number : PortFault → ℕ
fault_number DeviceFailed = 10
fault_number Interrupted = 11

abbrev pub fault_text : PortFault → List ℕ
fault_text DeviceFailed = codes "the device failed"
fault_text Interrupted = codes "1,000 interrupted turns in a row"
