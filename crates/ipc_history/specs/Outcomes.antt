-- What the caller of a call is told (L4 X.2 manual, Ipc: output parameters).
use Rattle.std.specs.Prelude.{◌≡◌, ◌≤◌, ℕ, ◌+◌, ◌*◌, List, [], ◌++◌, Bool, ◌||◌, ◌&&◌, not, Option, Some}
use Rattle.std.specs.Prelude.{None, unwrap_or, length, ◌==◌, if◌then◌else◌}
use Rattle.ipc_words.specs.Limits.{max_message_words}
use Rattle.ipc_words.specs.ThreadId.{nilthread}
use Rattle.ipc_words.specs.IpcError.{failure_code}
use Rattle.ipc_words.specs.declared.ipc_error.Phase.TheVariants.{Send, Receive}
use Rattle.ipc_words.specs.declared.ipc_error.ErrorKind.TheVariants as kind
use Rattle.ipc_words.specs.MsgTag.{untyped_of, typed_of}
use Rattle.ipc_words.specs.TagFields.{received_tag}
use Rattle.ipc_items.specs.Pieces.{PlacedBytes, pieces_of_all, simple_items}
use Rattle.ipc_items.specs.declared.buffer_list.Substring.{Substring}
use Rattle.ipc_history.specs.Words.{before, first_some}
use Rattle.ipc_history.specs.Entries.{calls, closes, ends_send}
use Rattle.ipc_history.specs.Calls.{caller_of, to_of, from_of, tag_of, words_of, strings_of, buffers_of}
use Rattle.ipc_history.specs.Threads.{has_broken, now}
use Rattle.ipc_history.specs.Phases.{is_over}
use Rattle.ipc_history.specs.Matching.{is_propagated, shown_sender}
use Rattle.ipc_history.specs.declared.entry.Entry.{Entry}
use Rattle.ipc_history.specs.declared.entry.Entry.TheVariants.{Written}
use Rattle.ipc_history.specs.declared.entry.Output.TheVariants.{Ended, Overflowed, Aborted, Failed}

-- the number of the call, the moment at which it was over, the tag, the sender that is shown, the
-- ActualSender, the ErrorCode, MR1 on, and the strings that were received with the buffer strings
-- that they fill
pub record OutcomeParts : Type 0 where
  pub call : ℕ
  pub moment : ℕ
  pub tag : ℕ
  pub sender : ℕ
  pub actual : ℕ
  pub error : ℕ
  pub words : List ℕ
  pub strings : List (List ℕ)
  pub buffers : List (List Substring)

-- the words are as many as the tag says, untyped and typed together, and no more than a message has
pub record HasItsWords (tag : ℕ) (words : List ℕ) : Type 0 where
  pub counted : length words ≡ untyped_of tag + typed_of tag
  pub few : length words ≤ max_message_words

-- where the received bytes go, string by string
abbrev pub pieces_in : OutcomeParts → List (List PlacedBytes)
pieces_in outcome = pieces_of_all outcome.buffers outcome.strings

-- What the entries tell of a call, but for the moment, which stands at 0 there. A failure: the flag
-- E and an ErrorCode
abbrev pub failure : ℕ → ℕ → OutcomeParts
failure n error = record {
  call = n;
  moment = 0;
  tag = 0x8000;
  sender = nilthread;
  actual = nilthread;
  error = error;
  words = [];
  strings = [];
  buffers = [];
}

-- over without a receive phase: all 0
abbrev pub nothing : ℕ → OutcomeParts
nothing n = record {
  call = n;
  moment = 0;
  tag = 0;
  sender = nilthread;
  actual = nilthread;
  error = 0;
  words = [];
  strings = [];
  buffers = [];
}

-- what m is told of the message of n: its tag, with two typed words for each string; its untyped
-- words, then for each string a simple item
abbrev pub received : List Entry → ℕ → ℕ → OutcomeParts
received H n m = record {
  call = m;
  moment = 0;
  tag = received_tag (tag_of H n) (2 * length (strings_of H n)) (is_propagated H n);
  sender = shown_sender H n;
  actual = if is_propagated H n then caller_of H n else nilthread;
  error = 0;
  words = words_of H n ++ simple_items (buffers_of H m) (strings_of H n);
  strings = strings_of H n;
  buffers = buffers_of H m;
}

-- what an entry tells of n, as the sender or as the receiver
abbrev pub outcome_in : List Entry → ℕ → Entry → Option OutcomeParts
outcome_in H n (Written (Failed k code)) = (if k == n then Some (failure n code) else None)
outcome_in H n (Written (Overflowed k m offset)) =
    (if k == n then Some (failure n (failure_code Send kind.MessageOverflow offset))
    else (if m == n then Some (failure n (failure_code Receive kind.MessageOverflow offset)) else None))
outcome_in H n (Written (Aborted k m count)) =
    (if k == n then Some (failure n (failure_code Send kind.Aborted count))
    else (if m == n then Some (failure n (failure_code Receive kind.Aborted count)) else None))
outcome_in H n (Written (Ended k m)) = (if m == n then Some (received H k n) else None)
outcome_in H n _ = None

-- the entry after which the call n is over, where these are its to and from, while its caller
-- lives: the one that closes it; the end of its send phase, where it has no receive phase; its
-- Called, where it has neither phase
abbrev pub is_last_of : ℕ → ℕ → ℕ → Entry → Bool
is_last_of to from n e = closes n e || ((from == nilthread) && (ends_send n e || ((to == nilthread) && calls n e)))

-- the moment at which n was over: that of the entries before this one
unfoldable pub end_moment : List Entry → ℕ → ℕ
end_moment H n = now (before (is_last_of (to_of H n) (from_of H n) n) H)

-- an outcome of this moment
abbrev pub timed : ℕ → OutcomeParts → OutcomeParts
timed moment outcome = record outcome { moment = moment }

-- the outcome of n: none while it is open or where its caller has ended
unfoldable pub outcome_of : List Entry → ℕ → Option OutcomeParts
outcome_of H n =
    (if not (is_over H n) || has_broken H (caller_of H n) then None
    else Some (timed (end_moment H n) (unwrap_or (first_some (outcome_in H n) H) (nothing n))))
