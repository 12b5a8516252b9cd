-- A service: one kernel, and the connections, each with its space, its stage, the version in which
-- it is answered, and the bytes that it has to put out.
use Rattle.std.specs.Prelude.{ℕ, zero, suc, Bool, false, ◌==◌, List, [], ◌∷◌, ◌++◌, drop, Option}
use Rattle.std.specs.Prelude.{Some, None, slice_index_or, slice_set, option_map}
use Rattle.std.specs.List.{position_or_len}
use Rattle.ipc_words.specs.Limits.{table_slots}
use Rattle.ipc_words.specs.ThreadId.{number_of}
use Rattle.ipc_history.specs.Outcomes.{OutcomeParts}
use Rattle.ipc_frame.specs.Frames.{spelling}
use Rattle.ipc_frame.specs.declared.frame.Frame.{Frame}
use Rattle.ipc_frame.specs.declared.version.WireVersion.{WireVersion}
use Rattle.ipc_frame.specs.declared.version.WireVersion.TheVariants.{One}
use Rattle.ipc_core.specs.KernelParts.{KernelParts}
use Rattle.ipc_core.specs.Obeying.{rested}
use Rattle.ipc_core.specs.Outcomes.{outcome_to_take}
use Rattle.ipc_core.specs.Steps.{taken_after}
use Rattle.ipc_frame.specs.Replies.{ipcr_of}
use Rattle.ipc_connection.specs.Replying.{next_stage, next_version, reply}
use Rattle.ipc_connection.specs.declared.stage.Stage.{Stage}
use Rattle.ipc_connection.specs.declared.stage.Stage.TheVariants.{Greeting, Serving, Finished}
use Rattle.ipc_connection.specs.declared.replying.Told.{Told}

pub record ConnectionParts : Type 0 where
  pub space : ℕ
  pub stage : Stage
  pub version : WireVersion
  pub out : List ℕ

-- a kernel between commands: where the last command began isn't seen
abbrev pub at_rest : KernelParts → KernelParts
at_rest kernel = rested kernel

pub record ServiceParts : Type 0 where
  pub kernel : KernelParts
  pub connections : List ConnectionParts

-- the connection in a place; one that is not there has ended
abbrev pub nobody : ConnectionParts
nobody = record { space = 0; stage = Finished; version = One; out = [] }

abbrev pub connection_at : List ConnectionParts → ℕ → ConnectionParts
connection_at connections place = slice_index_or connections place nobody

-- one more connection, from a space
abbrev pub with_connection : ℕ → ServiceParts → ServiceParts
with_connection space old = record {
  kernel = old.kernel;
  connections = old.connections ++ record { space = space; stage = Greeting; version = One; out = [] } ∷ [];
}

-- so many bytes of the connection in a place went out
abbrev pub without_bytes : ℕ → ℕ → ServiceParts → ServiceParts
without_bytes place count old = record {
  kernel = old.kernel;
  connections = slice_set old.connections place
      (record (connection_at old.connections place) { out = drop count (connection_at old.connections place).out });
}

-- a frame's bytes, if there is one
abbrev pub text_of : Option Frame → List ℕ
text_of None = []
text_of (Some frame) = spelling frame

-- a connection to which something is told
abbrev pub told_connection : Told → ConnectionParts → ConnectionParts
told_connection told connection = record {
  space = connection.space;
  stage = next_stage connection.stage told;
  version = next_version connection.version told;
  out = connection.out ++ text_of (reply connection.version told);
}

-- the outcome that the thread of a stage may take
abbrev pub outcome_at : KernelParts → Stage → Option OutcomeParts
outcome_at kernel (Serving thread) = outcome_to_take kernel thread
outcome_at kernel Greeting = None
outcome_at kernel Finished = None

-- a kernel from which an outcome was taken, and a connection to which it is told
abbrev pub without_outcome : KernelParts → Option OutcomeParts → KernelParts
without_outcome kernel outcome = record kernel { taken = taken_after outcome kernel.taken }

abbrev pub with_outcome : Option OutcomeParts → ConnectionParts → ConnectionParts
with_outcome outcome connection = record connection { out = connection.out ++ text_of (option_map (ipcr_of connection.version) outcome) }

-- the connection in a place is told the outcome that its thread may take
abbrev pub told_outcome : ℕ → ServiceParts → ServiceParts
told_outcome place old = record {
  kernel = without_outcome old.kernel (outcome_at old.kernel (connection_at old.connections place).stage);
  connections = slice_set old.connections place
      (with_outcome (outcome_at old.kernel (connection_at old.connections place).stage) (connection_at old.connections place));
}

-- the stage is that of a thread of this number
abbrev pub serves_number : ℕ → Stage → Bool
serves_number number (Serving thread) = number_of thread == number
serves_number number Greeting = false
serves_number number Finished = false

-- the place of the connection whose thread has this number; past the end where there is none
unfoldable pub place_of : ℕ → List ConnectionParts → ℕ
place_of number connections = position_or_len (λ (connection : ConnectionParts). serves_number number connection.stage) connections

-- the connections of the first so many thread numbers, in order, are told the outcomes that their
-- threads may take
unfoldable pub delivered_to : ℕ → ServiceParts → ServiceParts
delivered_to zero service = service
delivered_to (suc number) service =
    told_outcome (place_of number (delivered_to number service).connections) (delivered_to number service)

-- each thread's connection is told the outcome that the thread may take
unfoldable pub delivered : KernelParts → List ConnectionParts → ServiceParts
delivered kernel connections = delivered_to table_slots (record { kernel = kernel; connections = connections })
