-- The one output that comes next. Our choice (docs/PROFILE.md): the six rules, their order, and of
-- several calls the least number first.
use Rattle.std.specs.Prelude.{ℕ, ◌≤◌, List, [], ◌∷◌, Bool, ◌&&◌, ◌||◌, not, Option, Some}
use Rattle.std.specs.Prelude.{None, option_map, option_and_then, ◌==◌, if◌then◌else◌}
use Rattle.std.specs.List.{list_any}
use Rattle.std.specs.Option.{option_or, option_map_or}
use Rattle.ipc_words.specs.Limits.{max_string_bytes}
use Rattle.ipc_words.specs.ThreadId.{anythread, anylocalthread}
use Rattle.ipc_words.specs.Control.{stops_receive, stops_send}
use Rattle.ipc_words.specs.IpcError.{failure_code}
use Rattle.ipc_words.specs.declared.ipc_error.Phase.TheVariants.{Send, Receive}
use Rattle.ipc_words.specs.declared.ipc_error.ErrorKind.TheVariants as kind
use Rattle.ipc_items.specs.Fit.{overflow_offset}
use Rattle.ipc_history.specs.Words.{last, first_some}
use Rattle.ipc_history.specs.Entries.{ends}
use Rattle.ipc_history.specs.Calls.{numbers, caller_of, to_of, strings_of, buffers_of, message_size}
use Rattle.ipc_history.specs.Threads.{is_live, has_broken, space_of}
use Rattle.ipc_history.specs.Phases.{receiver_of, sender_of, is_over, open_call, is_sending}
use Rattle.ipc_history.specs.Phases.{is_transferring, is_receiving, moved_bytes}
use Rattle.ipc_history.specs.Matching.{shown_sender, from_specifier, match_of}
use Rattle.ipc_history.specs.Timing.{is_due}
use Rattle.ipc_history.specs.declared.entry.Entry.{Entry}
use Rattle.ipc_history.specs.declared.entry.Entry.TheVariants.{Given, Written}
use Rattle.ipc_history.specs.declared.entry.Input.TheVariants.{Exreg}
use Rattle.ipc_history.specs.declared.entry.Output.{Output}
use Rattle.ipc_history.specs.declared.entry.Output.TheVariants.{Began, Turned, Ended, Overflowed, Aborted, Failed}

-- the transfer of n, or to m, is aborted where it stands
unfoldable pub abort_send : List Entry → ℕ → Option Output
abort_send P n =
    option_and_then
    (λ m. if is_transferring P n m then Some (Aborted n m (moved_bytes P n)) else None)
    (receiver_of P n)

unfoldable pub abort_receive : List Entry → ℕ → Option Output
abort_receive P m =
    option_and_then
    (λ n. if is_transferring P n m then Some (Aborted n m (moved_bytes P n)) else None)
    (sender_of P m)

-- what S and R stop in the open call c: a waiting phase fails, cancelled by another thread (e=3); a
-- transfer is aborted (e=7)
unfoldable pub stop_send : List Entry → ℕ → Option Output
stop_send P c = (if is_sending P c then Some (Failed c (failure_code Send kind.Cancelled 0)) else abort_send P c)

unfoldable pub stop_receive : List Entry → ℕ → Option Output
stop_receive P c = (if is_receiving P c then Some (Failed c (failure_code Receive kind.Cancelled 0)) else abort_receive P c)

unfoldable pub stop : List Entry → ℕ → ℕ → Option Output
stop P control c =
    option_or (if stops_send control then stop_send P c else None)
    (if stops_receive control then stop_receive P c else None)

-- 1. the last entry is an ExchangeRegisters that stops a phase of a live target of its own space
-- (L4 X.2 manual, ExchangeRegisters: S and R)
unfoldable pub stop_after : List Entry → Entry → Option Output
stop_after P (Given (Exreg thread target control)) =
    (if is_live P target && (space_of P target == space_of P thread)
    then option_and_then (stop P control) (open_call P target)
    else None)
stop_after P _ = None

-- 2. the last entry began a propagated message: an originator that waits for the sender waits for
--    its receiver from now on
-- (L4 X.2 manual, propagation)
unfoldable pub turn_after : List Entry → Entry → Option Output
turn_after P (Written (Began n m)) =
    (if shown_sender P n == caller_of P n then None
    else option_and_then
    (λ r. if is_receiving P r && (from_specifier P r == caller_of P n) then Some (Turned r (to_of P n)) else None)
    (open_call P (shown_sender P n)))
turn_after P _ = None

-- 3. a transfer has all its bytes copied: it ends
unfoldable pub end_of : List Entry → ℕ → Option Output
end_of P n =
    option_and_then
    (λ m. if is_transferring P n m && (moved_bytes P n == message_size P n) then Some (Ended n m) else None)
    (receiver_of P n)

-- 4. a call whose partner is gone fails: a waiting send phase to a thread that is not live, or to
-- its own caller (e=2); a waiting receive phase from a thread that is not live (e=2); either side
-- of a transfer whose other caller ended (e=7, with the bytes copied)
unfoldable pub is_send_partner_gone : List Entry → ℕ → Bool
is_send_partner_gone P n = is_sending P n && (not (is_live P (to_of P n)) || (to_of P n == caller_of P n))

unfoldable pub is_receive_partner_gone : List Entry → ℕ → Bool
is_receive_partner_gone P m =
    is_receiving P m
    && not (from_specifier P m == anythread)
    && not (from_specifier P m == anylocalthread)
    && not (is_live P (from_specifier P m))

-- the open call n is left in the transfer from k to m, as the caller of the other call has ended
unfoldable pub is_left : List Entry → ℕ → ℕ → ℕ → ℕ → Bool
is_left P n k m other = not (is_over P n) && not (list_any (ends k m) P) && has_broken P (caller_of P other)

unfoldable pub left_sender_code : List Entry → ℕ → Option ℕ
left_sender_code P n =
    option_and_then
    (λ m. if is_left P n n m m then Some (failure_code Send kind.Aborted (moved_bytes P n)) else None)
    (receiver_of P n)

unfoldable pub left_receiver_code : List Entry → ℕ → Option ℕ
left_receiver_code P m =
    option_and_then
    (λ n. if is_left P m n m n then Some (failure_code Receive kind.Aborted (moved_bytes P n)) else None)
    (sender_of P m)

unfoldable pub partner_gone_code : List Entry → ℕ → Option ℕ
partner_gone_code P n =
    (if is_send_partner_gone P n then Some (failure_code Send kind.NonExistingPartner 0)
    else (if is_receive_partner_gone P n then Some (failure_code Receive kind.NonExistingPartner 0)
    else option_or (left_sender_code P n) (left_receiver_code P n)))

unfoldable pub partner_gone_of : List Entry → ℕ → Option Output
partner_gone_of P n = option_map (λ code. Failed n code) (partner_gone_code P n)

-- 5. n meets a receiving call: their transfer begins, or both fail where a string does not fit its
--    buffer (e=4)
unfoldable pub meeting : List Entry → ℕ → ℕ → Output
meeting P n m = option_map_or (λ offset. Overflowed n m offset) (overflow_offset (strings_of P n) (buffers_of P m)) (Began n m)

unfoldable pub meeting_of : List Entry → ℕ → Option Output
meeting_of P n = option_map (meeting P n) (match_of P n)

-- the code of the phase of n that is due: a timeout (e=1)
abbrev pub timeout_code : List Entry → ℕ → ℕ
timeout_code P n =
    (if is_sending P n
    then failure_code Send kind.Timeout 0
    else failure_code Receive kind.Timeout 0)

-- 6. the waiting phase of n is due: it fails, timed out (e=1)
unfoldable pub timeout_of : List Entry → ℕ → Option Output
timeout_of P n =
    (if is_due P n then Some (Failed n (timeout_code P n)) else None)

-- what each rule gives, in their order
abbrev pub rule_outputs : List Entry → List (Option Output)
rule_outputs P =
    option_and_then (stop_after P) (last P)
    ∷ option_and_then (turn_after P) (last P)
    ∷ first_some (end_of P) (numbers P)
    ∷ first_some (partner_gone_of P) (numbers P)
    ∷ first_some (meeting_of P) (numbers P)
    ∷ first_some (timeout_of P) (numbers P)
    ∷ []

-- the first that is given of these
abbrev pub first_given : List (Option Output) → Option Output
first_given [] = None
first_given (given ∷ []) = given
first_given (given ∷ later ∷ rest) = option_or given (first_given (later ∷ rest))

-- the next output: that of the first rule that applies, for the least call
unfoldable pub next_output : List Entry → Option Output
next_output P = first_given (rule_outputs P)

-- no call has copied more bytes than a message may have
abbrev pub MovesFit : List Entry → Type 0
MovesFit P = (n : ℕ) → moved_bytes P n ≤ max_string_bytes
