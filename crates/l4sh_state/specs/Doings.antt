-- What a live thread does, by its open call.
use Rattle.std.specs.Prelude.{ℕ}
use Rattle.std.specs.Option.{option_map_or}
use Rattle.ipc_threads.specs.declared.slot.Live.{Live}
use Rattle.ipc_threads.specs.declared.slot.Standing.{Standing}
use Rattle.ipc_threads.specs.declared.slot.Phase.{Phase}
use Rattle.ipc_threads.specs.declared.slot.Phase.TheVariants as phase
use Rattle.ipc_waits.specs.Keys.{due_after}
use Rattle.l4sh_state.specs.declared.doing.Doing.{Doing}
use Rattle.l4sh_state.specs.declared.doing.Doing.TheVariants.{Free, Sends, Receives, Passes, Gets}

-- what the caller of an open call does
abbrev pub does_in : Standing → Doing
does_in s = of s.phase
  where
    of : Phase → Doing
    of phase.Sending = Sends s.to s.since (due_after s.since s.send_period)
    of (phase.Passing m) = Passes s.to s.moved s.size
    of phase.Receiving = Receives s.awaited s.since (due_after s.since s.receive_period)
    of (phase.Taking k by bytes) = Gets by bytes

-- what a live thread does
abbrev pub does : Live → Doing
does l = option_map_or does_in l.call Free
