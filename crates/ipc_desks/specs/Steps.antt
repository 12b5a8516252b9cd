-- What becomes of a desk.
use Rattle.std.specs.Prelude.{◌≡◌, ◌≢◌, ℕ, ◌+◌, length, List, [], Bool, true, false, ◌==◌, ◌&&◌, Option, Some, None, if◌then◌else◌}
use Rattle.ipc_words.specs.ThreadId.{nilthread}
use Rattle.ipc_items.specs.declared.buffer_list.Substring.{Substring}
use Rattle.ipc_history.specs.CallParts.{CallParts}
use Rattle.ipc_history.specs.Outcomes.{OutcomeParts, nothing, timed}
use Rattle.ipc_desks.specs.Desks.{blank_desk, desk_at}
use Rattle.ipc_desks.specs.Messages.{PreparedParts}
use Rattle.ipc_desks.specs.declared.desk.Desk.{Desk}
use Rattle.ipc_desks.specs.declared.desk.Told.{Told}
use Rattle.ipc_desks.specs.declared.desk.Told.TheVariants.{Nothing, Waiting, Ready}

-- the call has an outcome
abbrev pub finished : OutcomeParts → Desk → Desk
finished outcome desk = record desk { message = None; told = Ready outcome }

-- its message was sent
abbrev pub emptied : Desk → Desk
emptied desk = record desk { message = None }

-- its outcome was taken
abbrev pub cleared : Desk → Desk
cleared desk = record desk { told = Nothing; taken = desk.taken + 1 }

-- a call n was entered at a moment
abbrev pub entered_told : ℕ → ℕ → CallParts → List (List Substring) → Told
entered_told moment n call buffers =
    (if (call.from == nilthread) && (call.to == nilthread) then Ready (timed moment (nothing n)) else Waiting n buffers)

abbrev pub entered : ℕ → ℕ → CallParts → PreparedParts → Desk → Desk
entered moment n call prepared desk = record desk {
  message = if call.to == nilthread then None else Some prepared.message;
  told = entered_told moment n call prepared.buffers;
  made = desk.made + 1;
}

-- a call n was entered, whose message is sent at once
abbrev pub sent_at_once : ℕ → PreparedParts → Desk → Desk
sent_at_once n prepared desk = record desk { message = None; told = Waiting n prepared.buffers; made = desk.made + 1 }

-- the buffer strings of a call that is open
abbrev pub buffers_in : Told → List (List Substring)
buffers_in (Waiting k buffers) = buffers
buffers_in _ = []

-- the outcome that is ready
abbrev pub is_nothing : Told → Bool
is_nothing Nothing = true
is_nothing _ = false

abbrev pub is_ready : Told → Bool
is_ready (Ready outcome) = true
is_ready _ = false

abbrev pub outcome_in_told : Told → Option OutcomeParts
outcome_in_told (Ready outcome) = Some outcome
outcome_in_told _ = None

-- of two lists of desks, one differs from the other at a place alone
pub record Changed (place : ℕ) (change : Desk → Desk) (old new : List Desk) : Type 0 where
  pub size : length new ≡ length old
  pub here : desk_at new place ≡ change (desk_at old place)
  pub beside : (k : ℕ) → k ≢ place → desk_at new k ≡ desk_at old k

-- the desk of a number whose thread ended
abbrev pub left : Desk → Desk
left desk = blank_desk

-- its buffer strings were moved out
abbrev pub unbuffered : Desk → Desk
unbuffered desk = record desk { told = Nothing }

-- an outcome that is ready was moved out
abbrev pub taken_from : Desk → Desk
taken_from desk = (if is_ready desk.told then cleared desk else desk)

-- two calls at these places have these outcomes, and no other desk changed
pub record Failing (i j : ℕ) (first second : OutcomeParts) (old new : List Desk) : Type 0 where
  pub size : length new ≡ length old
  pub sender : i ≢ j → desk_at new i ≡ finished first (desk_at old i)
  pub receiver : desk_at new j ≡ finished second (desk_at old j)
  pub beside : (k : ℕ) → k ≢ i → k ≢ j → desk_at new k ≡ desk_at old k

-- the message at one place and the buffer strings at another were moved out, and no other desk
-- changed
pub record Moved (i j : ℕ) (old new : List Desk) : Type 0 where
  pub size : length new ≡ length old
  pub sender : i ≢ j → desk_at new i ≡ emptied (desk_at old i)
  pub receiver : i ≢ j → desk_at new j ≡ unbuffered (desk_at old j)
  pub beside : (k : ℕ) → k ≢ i → k ≢ j → desk_at new k ≡ desk_at old k
