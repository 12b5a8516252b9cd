-- The numbers of the faults of a trace, printed after TR.
use Rattle.std.specs.Prelude.{ℕ, Option, Some, None}
use Rattle.ipc_trace.specs.declared.fault.PutFault.{PutFault}
use Rattle.ipc_trace.specs.declared.fault.PutFault.TheVariants as put
use Rattle.ipc_trace.specs.declared.fault.TraceEnd.{TraceEnd}
use Rattle.ipc_trace.specs.declared.fault.TraceEnd.TheVariants as end

abbrev pub put_number : PutFault → ℕ
put_number put.DeviceFailed = 1
put_number put.Stopped = 2
put_number put.NoMemory = 5

abbrev pub end_number : TraceEnd → Option ℕ
end_number end.Whole = None
end_number end.DeviceFailed = Some 1
end_number end.Torn = Some 3
end_number (end.BadLine number) = Some 4
end_number end.UnknownVersion = Some 6
end_number end.NoMemory = Some 5
