-- The numbers of the faults, as FAULT frames carry them.
use Rattle.std.specs.Prelude.{ℕ}
use Rattle.ipc_frame.specs.declared.fault.FrameFault.{FrameFault}
use Rattle.ipc_frame.specs.declared.fault.FrameFault.TheVariants.{TooLong, UnknownKind, WrongSize}
use Rattle.ipc_frame.specs.declared.fault.FrameFault.TheVariants.{TooManyWords, PastWords}
use Rattle.ipc_frame.specs.declared.fault.FrameFault.TheVariants.{ReservedBit, OutsidePayload}
use Rattle.ipc_frame.specs.declared.fault.FrameFault.TheVariants.{TooManyBytes, Unfinished, Device}
use Rattle.ipc_frame.specs.declared.fault.FrameFault.TheVariants.{Interrupted, TimePoint, Spent}
use Rattle.ipc_frame.specs.declared.fault.FrameFault.TheVariants.{NoMemory, UnknownVersion}

abbrev pub fault_number : FrameFault → ℕ
fault_number TooLong = 1
fault_number UnknownKind = 2
fault_number WrongSize = 3
fault_number TooManyWords = 4
fault_number PastWords = 5
fault_number ReservedBit = 6
fault_number OutsidePayload = 7
fault_number TooManyBytes = 8
fault_number Unfinished = 9
fault_number Device = 10
fault_number Interrupted = 11
fault_number TimePoint = 12
fault_number Spent = 13
fault_number NoMemory = 14
fault_number UnknownVersion = 15
