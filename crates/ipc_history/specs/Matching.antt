-- Which send phase meets which receive phase (L4 X.2 manual, Ipc: FromSpecifier, propagation,
-- VirtualSender and ActualSender).
use Rattle.std.specs.Prelude.{ℕ, List, Bool, true, ◌&&◌, not, find, unwrap_or, Option, ◌==◌, if◌then◌else◌}
use Rattle.ipc_words.specs.ThreadId.{anythread, anylocalthread}
use Rattle.ipc_words.specs.MsgTag.{propagates}
use Rattle.ipc_history.specs.Words.{last_some, before}
use Rattle.ipc_history.specs.Entries.{calls, turned_in}
use Rattle.ipc_history.specs.Calls.{numbers, caller_of, to_of, from_of, tag_of, originator_of}
use Rattle.ipc_history.specs.Threads.{is_live, space_of}
use Rattle.ipc_history.specs.Phases.{is_sending, is_receiving}
use Rattle.ipc_history.specs.declared.entry.Entry.{Entry}

-- the entries before n was called
unfoldable pub before_call : List Entry → ℕ → List Entry
before_call P n = before (calls n) P

-- Our choice (docs/PROFILE.md): the propagation of n is permitted where p is set and, when n was
-- called, its originator was live and of the caller's space; else p is dropped
unfoldable pub is_propagated : List Entry → ℕ → Bool
is_propagated P n =
    propagates (tag_of P n)
    && is_live (before_call P n) (originator_of P n)
    && (space_of (before_call P n) (originator_of P n) == space_of (before_call P n) (caller_of P n))

-- the sender that the receiver sees: the VirtualSender where the propagation is permitted, else the
-- caller
unfoldable pub shown_sender : List Entry → ℕ → ℕ
shown_sender P n = (if is_propagated P n then originator_of P n else caller_of P n)

-- the FromSpecifier of the receive phase of m as it stands: that of the last Turned, else as it was
-- given
unfoldable pub from_specifier : List Entry → ℕ → ℕ
from_specifier P m = unwrap_or (last_some (turned_in m) P) (from_of P m)

-- m accepts a sender: anythread every one, anylocalthread those of its own space, another id that
-- thread alone
unfoldable pub accepts : List Entry → ℕ → ℕ → Bool
accepts P m sender =
    (if from_specifier P m == anythread then true
    else (if from_specifier P m == anylocalthread then space_of P sender == space_of P (caller_of P m)
    else from_specifier P m == sender))

-- the waiting send phase of n meets the waiting receive phase of m; a send to oneself meets nothing
unfoldable pub matches : List Entry → ℕ → ℕ → Bool
matches P n m =
    is_sending P n
    && is_receiving P m
    && (to_of P n == caller_of P m)
    && not (to_of P n == caller_of P n)
    && accepts P m (shown_sender P n)

-- the receiving call that n meets, if any
unfoldable pub match_of : List Entry → ℕ → Option ℕ
match_of P n = find (matches P n) (numbers P)
