-- The state of a history: its live threads with their open calls.
use Rattle.std.specs.Prelude.{◌≡◌, ℕ, ◌+◌, ◌<◌, ◌++◌, List, codes, length, take, Option, None, slice_index_or}
use Rattle.ipc_words.specs.Limits.{table_slots}
use Rattle.ipc_history.specs.Threads.{now}
use Rattle.ipc_history.specs.Legal.{Legal}
use Rattle.ipc_history.specs.declared.entry.Entry.{Entry}
use Rattle.ipc_threads.specs.Slots.{slot_of}
use Rattle.ipc_threads.specs.declared.slot.Live.{Live}
use Rattle.l4sh_state.specs.declared.state.State.{State}

-- the entries before the place are legal, those up to it are not
pub record IsFaultAt (P : List Entry) (index : ℕ) : Type 0 where
  pub within : index < length P
  pub before : Legal (take index P)
  pub fault : Legal (take (index + 1) P) → ⊥

-- for each number the live thread with its open call, as the slot of that number has it
pub record HasThreads (P : List Entry) (threads : List (Option Live)) : Type 0 where
  pub size : length threads ≡ table_slots
  pub each : (k : ℕ) → k < table_slots → slice_index_or threads k None ≡ (slot_of P k).live

-- the state of a legal history
pub record IsStateOf (P : List Entry) (state : State) : Type 0 where
  pub legal : Legal P
  pub threads : HasThreads P state.threads
  pub moment : state.moment ≡ now P

-- the text of a state tells its moment first
abbrev pub TellsMoment : List ℕ → Type 0
TellsMoment text = (rest : List ℕ) × (text ≡ codes "moment " ++ rest)

-- a deadlock stands in it
abbrev pub TellsDeadlock : List ℕ → Type 0
TellsDeadlock text = (front rest : List ℕ) × (text ≡ front ++ (codes "deadlock: " ++ rest))
