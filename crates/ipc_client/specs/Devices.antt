-- The faults of a port among those of frames.
use Rattle.std.specs.Prelude.{⊤}
use Rattle.ipc_frame.specs.declared.fault.FrameFault.{FrameFault}
use Rattle.ipc_frame.specs.declared.fault.FrameFault.TheVariants as fault
use Rattle.ipc_base.specs.declared.fault.PortFault.{PortFault}
use Rattle.ipc_base.specs.declared.fault.PortFault.TheVariants as port

-- F10 and F11
abbrev pub device_fault : PortFault → FrameFault
device_fault port.DeviceFailed = fault.Device
device_fault port.Interrupted = fault.Interrupted

abbrev pub IsDeviceFault : FrameFault → Type 0
IsDeviceFault fault.Device = ⊤
IsDeviceFault fault.Interrupted = ⊤
IsDeviceFault _ = ⊥
