-- What a kernel port in memory kept, as calls.
use Rattle.std.specs.Prelude.{List, Option, Some, None, Bool, map, if◌then◌else◌}
use Rattle.ipc_connection.specs.KernelCalls.{Asks, Breaks, KernelCall, Posts}
use Rattle.ipc_session.specs.declared.deed.Deed.{Deed}
use Rattle.ipc_session.specs.declared.deed.Deed.TheVariants as deed

abbrev pub call_of : Deed → KernelCall
call_of (deed.Asked request told) = Asks request told
call_of (deed.Posted frame) = Posts frame
call_of deed.Broke = Breaks

-- all of them, or nothing once one was lost
abbrev pub calls_of : Bool → List Deed → Option (List KernelCall)
calls_of is_complete deeds = if is_complete then Some (map call_of deeds) else None
