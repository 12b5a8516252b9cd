-- What tells that nothing comes of a call as it is entered: its receive phase rests, or its send
-- phase waits.
use Rattle.std.specs.Prelude.{ℕ, List, Bool, true, false, not, ◌&&◌, ◌||◌, ◌==◌, if◌then◌else◌}
use Rattle.std.specs.Option.{option_map_or}
use Rattle.ipc_words.specs.ThreadId.{nilthread, anythread, anylocalthread}
use Rattle.ipc_words.specs.MsgTag.{propagates}
use Rattle.ipc_words.specs.Time.{span}
use Rattle.ipc_history.specs.CallParts.{CallParts}
use Rattle.ipc_history.specs.Threads.{is_live}
use Rattle.ipc_history.specs.Phases.{is_receiving, open_call}
use Rattle.ipc_history.specs.Matching.{accepts}
use Rattle.ipc_history.specs.declared.entry.Entry.{Entry}

-- the period is zero time
abbrev pub has_no_time : ℕ → Bool
has_no_time period = option_map_or (λ micros. micros == 0) (span period) false

-- the receive phase of the call has a partner that is there, or may come, and time
abbrev pub is_patient : List Entry → CallParts → Bool
is_patient P call =
    ((call.from == anythread) || (call.from == anylocalthread) || is_live P call.from) && not (has_no_time call.receive_period)

-- a FromSpecifier lets a sender in, which is of the receiver's space or not
abbrev pub lets_in_by : ℕ → ℕ → Bool → Bool
lets_in_by from sender is_local =
    (if from == anythread then true else (if from == anylocalthread then is_local else from == sender))

-- the open call of the thread waits to receive and takes the sender
abbrev pub takes : List Entry → ℕ → ℕ → Bool
takes P thread sender = option_map_or (λ r. is_receiving P r && accepts P r sender) (open_call P thread) false

-- the send phase of a call that a thread makes has time, goes to another thread, which lives, and
-- is not propagated
abbrev pub may_wait : List Entry → ℕ → CallParts → Bool
may_wait P thread call =
    not (call.to == nilthread)
    && not (call.to == thread)
    && not (propagates call.tag)
    && not (has_no_time call.send_period)
    && is_live P call.to
