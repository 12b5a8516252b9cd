-- A history that goes on, and what is judged of one that is given entry by entry.
use Rattle.std.specs.Prelude.{◌≡◌, ℕ, ◌^◌, ◌<◌, ◌≤◌, IsFalse, slice_index_or, List, [], ◌++◌, length, Bool, false}
use Rattle.ipc_words.specs.ThreadId.{number_of}
use Rattle.ipc_history.specs.Entries.{calls}
use Rattle.ipc_history.specs.Holding.{Holds}
use Rattle.ipc_history.specs.Phases.{is_over}
use Rattle.ipc_history.specs.declared.entry.Entry.{Entry}
use Rattle.ipc_history.specs.declared.entry.Entry.TheVariants.{Given}
use Rattle.ipc_history.specs.declared.entry.Input.TheVariants.{Called}
use Rattle.ipc_threads.specs.PastSlots.{PastSlots}
use Rattle.ipc_threads.specs.Slot.{Slot}
use Rattle.ipc_threads.specs.Slots.{slot_at}
use Rattle.ipc_threads.specs.Steps.{holds}
use Rattle.ipc_check.specs.Faults.{IsFirstFault}
use Rattle.ipc_check.specs.declared.checker.Verdict.{Verdict}
use Rattle.ipc_check.specs.declared.checker.Verdict.TheVariants.{Yes, No}

-- the slots are those of the past, and what is held has its open calls
pub record IsOngoing (P : List Entry) (slots : PastSlots) (held : List Entry) : Type 0 where
  pub told : slots.past ≡ P
  pub holds : Holds P held

-- an entry enters the call that the slot of its caller holds
abbrev pub is_held_call : List Slot → Entry → Bool
is_held_call table (Given (Called number caller call)) = holds (slot_at table (number_of caller)) number
is_held_call table _ = false

-- the entry at a place enters no open call
pub record IsSpare (P held : List Entry) (place : ℕ) : Type 0 where
  pub within : place < length held
  pub silent : (n : ℕ) → IsFalse (is_over P n) → (d : Entry) → IsFalse (calls n (slice_index_or held place d))

-- so many entries at most are given to a checker  -- limit
abbrev pub max_given : ℕ
max_given = 2 ^ 63

-- of a legal front, and of the entries behind it that were only counted
abbrev pub IsJudgment : List Entry → List Entry → Verdict → Type 0
IsJudgment front rest Yes = rest ≡ []
IsJudgment front rest (No index expected) = IsFirstFault (front ++ rest) index expected

pub record IsJudged (front rest : List Entry) (count : ℕ) (verdict : Verdict) : Type 0 where
  pub counted : count ≡ length (front ++ rest)
  pub few : count ≤ max_given
  pub judged : IsJudgment front rest verdict
