-- The rules of the next output that ask the open calls alone.
use Rattle.std.specs.Prelude.{ℕ, ◌≤◌, ◌||◌, not, option_map, List, length, Bool, true, false, Option, Some, None}
use Rattle.std.specs.Prelude.{option_and_then, ◌&&◌, ◌==◌, if◌then◌else◌}
use Rattle.ipc_words.specs.Limits.{max_string_bytes}
use Rattle.ipc_words.specs.ThreadId.{nilthread, anythread, anylocalthread}
use Rattle.ipc_words.specs.MsgTag.{propagates}
use Rattle.ipc_words.specs.IpcError.{failure_code}
use Rattle.ipc_words.specs.declared.ipc_error.Phase.TheVariants.{Send, Receive}
use Rattle.ipc_words.specs.declared.ipc_error.ErrorKind.TheVariants as kind
use Rattle.ipc_threads.specs.Steps.{taken}
use Rattle.ipc_history.specs.CallParts.{CallParts}
use Rattle.ipc_history.specs.Calls.{caller_of, to_of}
use Rattle.ipc_history.specs.Phases.{open_call, is_receiving}
use Rattle.ipc_history.specs.Matching.{shown_sender, from_specifier}
use Rattle.ipc_history.specs.Timing.{is_past}
use Rattle.ipc_history.specs.NextOutput.{end_of, partner_gone_of, abort_send}
use Rattle.ipc_history.specs.declared.entry.Entry.{Entry}
use Rattle.ipc_history.specs.declared.entry.Output.{Output}
use Rattle.ipc_history.specs.declared.entry.Output.TheVariants.{Began, Turned, Ended, Overflowed, Aborted, Failed}
use Rattle.ipc_laws.specs.Laws.{timeout_at}
use Rattle.ipc_waits.specs.declared.rules.Rule.{Rule}
use Rattle.ipc_waits.specs.declared.rules.Rule.TheVariants.{Ends, Fails, Expires, Copies}
use Rattle.ipc_threads.specs.declared.slot.Phase.{Phase}
use Rattle.ipc_threads.specs.declared.slot.Phase.TheVariants.{Sending, Passing, Receiving, Taking}
use Rattle.ipc_threads.specs.declared.slot.Standing.{Standing}

-- the rule's output for a call
abbrev pub rule_of : Rule → List Entry → ℕ → Option Output
rule_of Ends P n = end_of P n
rule_of Fails P n = partner_gone_of P n
rule_of (Expires moment) P n = timeout_at P moment n
rule_of Copies P n = abort_send P n

-- the timeout, at a moment, of what is kept of a call
abbrev pub timeout_by : ℕ → Standing → Option Output
timeout_by moment s = waiting s.phase
  where
    waiting : Phase → Option Output
    waiting Sending =
        (if is_past moment s.since s.send_period
        then Some (Failed s.number (failure_code Send kind.Timeout 0)) else None)
    waiting Receiving =
        (if is_past moment s.since s.receive_period
        then Some (Failed s.number (failure_code Receive kind.Timeout 0)) else None)
    waiting phase = None

-- and the end of its transfer
abbrev pub end_by : Bool → Standing → Option Output
end_by is_live s = passing s.phase
  where
    passing : Phase → Option Output
    passing (Passing m) = (if is_live && (s.moved == s.size) then Some (Ended s.number m) else None)
    passing phase = None

-- its failure, where its partner is gone
abbrev pub failure_code_by : Bool → Standing → Option ℕ
failure_code_by is_live s = of s.phase
  where
    of : Phase → Option ℕ
    of Sending =
        (if not is_live || (s.to == s.caller)
        then Some (failure_code Send kind.NonExistingPartner 0) else None)
    of (Passing m) = (if not is_live then Some (failure_code Send kind.Aborted s.moved) else None)
    of Receiving =
        (if not (s.awaited == anythread) && not (s.awaited == anylocalthread) && not is_live
        then Some (failure_code Receive kind.NonExistingPartner 0) else None)
    of (Taking k by bytes) =
        (if not is_live then Some (failure_code Receive kind.Aborted bytes) else None)

abbrev pub failure_by : Bool → Standing → Option Output
failure_by is_live s = option_map (λ code. Failed s.number code) (failure_code_by is_live s)

-- whether a phase waits to send, and to receive
abbrev pub waits_to_send : Phase → Bool
waits_to_send Sending = true
waits_to_send phase = false

abbrev pub waits_to_receive : Phase → Bool
waits_to_receive Receiving = true
waits_to_receive phase = false

-- whether a rule may give something for a call in this phase
abbrev pub concerns : Rule → Phase → Bool
concerns Ends (Passing m) = true
concerns Ends phase = false
concerns Copies (Passing m) = true
concerns Copies phase = false
concerns (Expires moment) phase = waits_to_send phase || waits_to_receive phase
concerns Fails phase = true

-- whether what is kept of a call waits to send to another thread
abbrev pub may_meet_by : Standing → Bool
may_meet_by s = waits_to_send s.phase && not (s.to == s.caller)

-- whether it waits to receive and accepts a sender, which is of its caller's space or not
abbrev pub awaits_by : ℕ → Bool → Standing → Bool
awaits_by sender is_local s =
    waits_to_receive s.phase
    && (if s.awaited == anythread then true else (if s.awaited == anylocalthread then is_local else s.awaited == sender))

-- whether it has a send phase with words alone, and is not propagated
abbrev pub sends_words_by : CallParts → Bool
sends_words_by call = not (call.to == nilthread) && not (propagates call.tag) && (length call.strings == 0)

-- what ExchangeRegisters stops of it, by S and by R: a waiting phase fails, a transfer is aborted
abbrev pub stop_by : Bool → Bool → Bool → Standing → Option Output
stop_by is_live send receive s = of s.phase
  where
    of : Phase → Option Output
    of Sending = (if send then Some (Failed s.number (failure_code Send kind.Cancelled 0)) else None)
    of (Passing m) = (if send && is_live then Some (Aborted s.number m s.moved) else None)
    of Receiving =
        (if receive then Some (Failed s.number (failure_code Receive kind.Cancelled 0)) else None)
    of (Taking k by bytes) = (if receive && is_live then Some (Aborted k s.number bytes) else None)

-- the abort of the transfer that it sends
abbrev pub abort_by : Bool → Standing → Option Output
abort_by is_live s = of s.phase
  where
    of : Phase → Option Output
    of (Passing m) = (if is_live then Some (Aborted s.number m s.moved) else None)
    of phase = None

-- whether it is in a send phase, and in a receive phase: it waits, or its transfer goes on
abbrev pub in_send_by : Bool → Standing → Bool
in_send_by is_live s = of s.phase
  where
    of : Phase → Bool
    of Sending = true
    of (Passing m) = is_live
    of phase = false

abbrev pub in_receive_by : Bool → Standing → Bool
in_receive_by is_live s = of s.phase
  where
    of : Phase → Bool
    of Receiving = true
    of (Taking k by bytes) = is_live
    of phase = false

-- the open call r of the originator of n waits for the caller of n: it waits for its receiver from
-- now on
abbrev pub turned_by : List Entry → ℕ → ℕ → Option Output
turned_by P n r =
    (if is_receiving P r && (from_specifier P r == caller_of P n) then Some (Turned r (to_of P n)) else None)

-- what comes of a propagated message of the call n that begins
abbrev pub turn_of : List Entry → ℕ → Option Output
turn_of P n =
    (if shown_sender P n == caller_of P n then None else option_and_then (turned_by P n) (open_call P (shown_sender P n)))

-- and by what is kept of the originator's call
abbrev pub turn_by : ℕ → ℕ → Standing → Option Output
turn_by caller to r =
    (if waits_to_receive r.phase && (r.awaited == caller) then Some (Turned r.number to) else None)

-- the call that an output names first
abbrev pub first_number : Output → ℕ
first_number (Began n m) = n
first_number (Turned n thread) = n
first_number (Ended n m) = n
first_number (Overflowed n m offset) = n
first_number (Aborted n m count) = n
first_number (Failed n code) = n

pub record IsSmall (s : Standing) : Type 0 where
  pub moved : s.moved ≤ max_string_bytes
  pub taken : taken s.phase ≤ max_string_bytes
