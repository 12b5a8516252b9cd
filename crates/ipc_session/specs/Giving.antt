-- What an answer port in memory gave, as calls.
use Rattle.std.specs.Prelude.{List, [], ◌∷◌, Option, Some, None, Bool, if◌then◌else◌}
use Rattle.std.specs.List.{flat_map}
use Rattle.ipc_frame.specs.declared.frame.Frame.{Frame}
use Rattle.ipc_frame.specs.declared.version.WireVersion.{WireVersion}
use Rattle.ipc_connection.specs.Replying.{reply}
use Rattle.ipc_connection.specs.declared.replying.Told.{Told}
use Rattle.ipc_session.specs.Taking.{Breaks, Gave, TakeCall}

abbrev pub gave : Option Frame → List TakeCall
gave None = []
gave (Some frame) = Gave frame ∷ []

-- an answer that was given as its frame, or a break
abbrev pub take_of : WireVersion → Option Told → List TakeCall
take_of version None = Breaks ∷ []
take_of version (Some told) = gave (reply version told)

-- all of them, or nothing once one was lost
abbrev pub takes_of : WireVersion → Bool → List (Option Told) → Option (List TakeCall)
takes_of version is_complete kept = if is_complete then Some (flat_map (take_of version) kept) else None
