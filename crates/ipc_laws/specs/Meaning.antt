-- What each output says of the history before it.
use Rattle.std.specs.Prelude.{◌≡◌, ℕ, List, Some, None, IsTrue, IsFalse}
use Rattle.ipc_words.specs.IpcError.{failure_code}
use Rattle.ipc_words.specs.declared.ipc_error.Phase.TheVariants.{Send, Receive}
use Rattle.ipc_words.specs.declared.ipc_error.ErrorKind.TheVariants as kind
use Rattle.ipc_items.specs.Fit.{overflow_offset}
use Rattle.ipc_history.specs.Words.{last}
use Rattle.ipc_history.specs.Calls.{caller_of, to_of, strings_of, buffers_of, message_size}
use Rattle.ipc_history.specs.Phases.{receiver_of, sender_of, open_call, is_sending, is_transferring, is_receiving, moved_bytes}
use Rattle.ipc_history.specs.Matching.{shown_sender, from_specifier, matches}
use Rattle.ipc_history.specs.Timing.{is_due}
use Rattle.ipc_history.specs.NextOutput.{is_send_partner_gone, is_receive_partner_gone, is_left}
use Rattle.ipc_history.specs.declared.entry.Entry.{Entry}
use Rattle.ipc_history.specs.declared.entry.Entry.TheVariants.{Written}
use Rattle.ipc_history.specs.declared.entry.Output.{Output}
use Rattle.ipc_history.specs.declared.entry.Output.TheVariants.{Began, Turned, Ended, Overflowed, Aborted, Failed}

-- why n fails with this code: stopped, a partner that is gone, left in a transfer by the other
-- caller, or due
pub data WhyFailed (P : List Entry) (n code : ℕ) : Type 0 where
  StoppedSend : IsTrue (is_sending P n) → code ≡ failure_code Send kind.Cancelled 0 → WhyFailed P n code
  StoppedReceive : IsTrue (is_receiving P n) → code ≡ failure_code Receive kind.Cancelled 0 → WhyFailed P n code
  SendPartnerGone : IsTrue (is_send_partner_gone P n) → code ≡ failure_code Send kind.NonExistingPartner 0 → WhyFailed P n code
  ReceivePartnerGone : IsTrue (is_receive_partner_gone P n)
      → code ≡ failure_code Receive kind.NonExistingPartner 0 → WhyFailed P n code
  LeftSender : (m : ℕ) → receiver_of P n ≡ Some m → IsTrue (is_left P n n m m)
      → code ≡ failure_code Send kind.Aborted (moved_bytes P n) → WhyFailed P n code
  LeftReceiver : (k : ℕ) → sender_of P n ≡ Some k → IsTrue (is_left P n k n k)
      → code ≡ failure_code Receive kind.Aborted (moved_bytes P k) → WhyFailed P n code
  DueSend : IsTrue (is_due P n) → IsTrue (is_sending P n) → code ≡ failure_code Send kind.Timeout 0 → WhyFailed P n code
  DueReceive : IsTrue (is_due P n) → IsFalse (is_sending P n) → code ≡ failure_code Receive kind.Timeout 0 → WhyFailed P n code

-- what holds where the next output is this one
abbrev pub Means : List Entry → Output → Type 0
Means P (Began n m) = IsTrue (matches P n m) × (overflow_offset (strings_of P n) (buffers_of P m) ≡ None)
Means P (Overflowed n m offset) = IsTrue (matches P n m) × (overflow_offset (strings_of P n) (buffers_of P m) ≡ Some offset)
Means P (Turned r thread) =
    IsTrue (is_receiving P r)
    × ((n : ℕ) × (m : ℕ) × (last P ≡ Some (Written (Began n m)))
    × (open_call P (shown_sender P n) ≡ Some r) × (from_specifier P r ≡ caller_of P n)
    × (thread ≡ to_of P n))
Means P (Ended n m) = IsTrue (is_transferring P n m) × (moved_bytes P n ≡ message_size P n)
Means P (Aborted n m count) = IsTrue (is_transferring P n m) × (count ≡ moved_bytes P n)
Means P (Failed n code) = WhyFailed P n code
