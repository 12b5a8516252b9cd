-- What a history says of a call, as a program keeps it while the call is open.
use Rattle.std.specs.Prelude.{◌≡◌, ℕ, List, Bool, Option, Some, None, IsFalse, ◌&&◌, ◌||◌, ◌==◌, if◌then◌else◌}
use Rattle.std.specs.Option.{option_map_or}
use Rattle.ipc_words.specs.ThreadId.{nilthread}
use Rattle.ipc_words.specs.MsgTag.{propagates}
use Rattle.ipc_items.specs.Strings.{size_of}
use Rattle.ipc_history.specs.CallParts.{CallParts}
use Rattle.ipc_history.specs.Calls.{caller_of, to_of, from_of, send_period_of, receive_period_of, message_size}
use Rattle.ipc_history.specs.Threads.{now, is_live, space_of}
use Rattle.ipc_history.specs.Phases.{is_over, is_sent, receiver_of, sender_of, moved_bytes}
use Rattle.ipc_history.specs.Matching.{before_call, from_specifier, shown_sender}
use Rattle.ipc_history.specs.Timing.{before_sent}
use Rattle.ipc_history.specs.declared.entry.Entry.{Entry}
use Rattle.ipc_threads.specs.declared.slot.Phase.{Phase}
use Rattle.ipc_threads.specs.declared.slot.Phase.TheVariants.{Sending, Passing, Receiving, Taking}
use Rattle.ipc_threads.specs.declared.slot.Standing.{Standing}

-- the moment at which the phase of n began: with the call, or where its send phase ended
unfoldable pub since_of : List Entry → ℕ → ℕ
since_of P n = now (if is_sent P n then before_sent P n else before_call P n)

-- the phase of the open call n: its receive phase where it has no send phase or that was
-- successful, else its send phase
unfoldable pub phase_of : List Entry → ℕ → Phase
phase_of P n =
    (if (to_of P n == nilthread) || is_sent P n
    then option_map_or (λ k. Taking k (caller_of P k) (moved_bytes P k)) (sender_of P n) Receiving
    else option_map_or (λ m. Passing m) (receiver_of P n) Sending)

unfoldable pub standing_of : List Entry → ℕ → Standing
standing_of P n = record {
  number = n;
  caller = caller_of P n;
  to = to_of P n;
  from = from_of P n;
  awaited = from_specifier P n;
  shown = shown_sender P n;
  since = since_of P n;
  send_period = send_period_of P n;
  receive_period = receive_period_of P n;
  size = message_size P n;
  moved = moved_bytes P n;
  phase = phase_of P n;
}

-- an open call as the slots have it
pub record IsStanding (P : List Entry) (s : Standing) : Type 0 where
  pub opened : IsFalse (is_over P s.number)
  pub is : s ≡ standing_of P s.number

-- the thread that what is kept of a call sends to, waits for or is in transfer with
abbrev pub partner_by : Standing → ℕ
partner_by s = of s.phase
  where
    of : Phase → ℕ
    of Sending = s.to
    of (Passing m) = s.to
    of Receiving = s.awaited
    of (Taking k by bytes) = by

-- the originator of a call that is entered after P is the sender that its receiver sees
abbrev pub may_be_shown : List Entry → ℕ → CallParts → Bool
may_be_shown P caller call =
    propagates call.tag && is_live P call.originator
    && (space_of P call.originator == space_of P caller)

-- what is kept of a call that is entered after P, where it is not over at once
abbrev pub entered_standing : List Entry → ℕ → ℕ → CallParts → Standing
entered_standing P n caller call = record {
  number = n;
  caller = caller;
  to = call.to;
  from = call.from;
  awaited = call.from;
  shown = if may_be_shown P caller call then call.originator else caller;
  since = now P;
  send_period = call.send_period;
  receive_period = call.receive_period;
  size = size_of call.strings;
  moved = 0;
  phase = if call.to == nilthread then Receiving else Sending;
}

abbrev pub entered : List Entry → ℕ → ℕ → CallParts → Option Standing
entered P n caller call =
    (if (call.from == nilthread) && (call.to == nilthread) then None
    else Some (entered_standing P n caller call))

-- what is kept of a call whose message was sent at this moment, as soon as it was entered, where it
-- is not over with that
abbrev pub exchanged_standing : ℕ → ℕ → ℕ → CallParts → Standing
exchanged_standing moment n caller call = record {
  number = n;
  caller = caller;
  to = call.to;
  from = call.from;
  awaited = call.from;
  shown = caller;
  since = moment;
  send_period = call.send_period;
  receive_period = call.receive_period;
  size = size_of call.strings;
  moved = 0;
  phase = Receiving;
}

abbrev pub exchanged_call : ℕ → ℕ → ℕ → CallParts → Option Standing
exchanged_call moment n caller call =
    (if call.from == nilthread then None else Some (exchanged_standing moment n caller call))
