-- What an entry makes possible: it concerns only the calls that the entry touches.
use Rattle.std.specs.Prelude.{◌≡◌, ℕ, ◌+◌, ◌≤◌, List, [], ◌∷◌, ◌++◌, Some, IsTrue, ◌⊎◌}
use Rattle.std.specs.Prelude.{option_and_then, map, length}
use Rattle.ipc_words.specs.IpcError.{failure_code}
use Rattle.ipc_words.specs.declared.ipc_error.Phase.TheVariants.{Send, Receive}
use Rattle.ipc_words.specs.declared.ipc_error.ErrorKind.TheVariants as kind
use Rattle.ipc_history.specs.NextOutput.{timeout_code}
use Rattle.ipc_history.specs.CallParts.{CallParts}
use Rattle.ipc_history.specs.Words.{last}
use Rattle.ipc_history.specs.Entries.{moment_in, breaks, closes, names}
use Rattle.ipc_history.specs.Calls.{caller_of, to_of, message_size}
use Rattle.ipc_history.specs.Phases.{receiver_of, sender_of, open_call, is_sending, is_transferring, is_receiving, moved_bytes}
use Rattle.ipc_history.specs.Matching.{from_specifier, matches}
use Rattle.ipc_history.specs.Timing.{is_due, is_due_at}
use Rattle.ipc_history.specs.NextOutput.{is_send_partner_gone, is_receive_partner_gone, is_left}
use Rattle.ipc_history.specs.NextOutput.{meeting, next_output, stop_after, turn_after}
use Rattle.ipc_history.specs.Legal.{Legal, Quiet, Follows}
use Rattle.ipc_history.specs.declared.entry.Entry.{Entry}
use Rattle.ipc_history.specs.declared.entry.Entry.TheVariants.{Given, Written}
use Rattle.ipc_history.specs.declared.entry.Input.TheVariants.{At, Opened, Called, Exreg, Broke, Moved}
use Rattle.ipc_history.specs.declared.entry.Output.{Output}
use Rattle.ipc_history.specs.declared.entry.Output.TheVariants.{Ended, Failed}

-- an output that the calls make possible, whatever entry came last, and why: all bytes of a
-- transfer are copied; a partner is gone; a send meets a receive; a waiting phase is due
pub data Possible (P : List Entry) (output : Output) : Type 0 where
  Ends : (n m : ℕ) → IsTrue (is_transferring P n m) → moved_bytes P n ≡ message_size P n → output ≡ Ended n m → Possible P output
  LosesReceiver : (n : ℕ) → IsTrue (is_send_partner_gone P n)
      → output ≡ Failed n (failure_code Send kind.NonExistingPartner 0) → Possible P output
  LosesSender : (n : ℕ) → IsTrue (is_receive_partner_gone P n)
      → output ≡ Failed n (failure_code Receive kind.NonExistingPartner 0) → Possible P output
  LeftSending : (n m : ℕ) → receiver_of P n ≡ Some m → IsTrue (is_left P n n m m)
      → output ≡ Failed n (failure_code Send kind.Aborted (moved_bytes P n)) → Possible P output
  LeftReceiving : (n k : ℕ) → sender_of P n ≡ Some k → IsTrue (is_left P n k n k)
      → output ≡ Failed n (failure_code Receive kind.Aborted (moved_bytes P k)) → Possible P output
  Meets : (n m : ℕ) → IsTrue (matches P n m) → output ≡ meeting P n m → Possible P output
  Expires : (n : ℕ) → IsTrue (is_due P n) → output ≡ Failed n (timeout_code P n) → Possible P output

-- the next output is what an ExchangeRegisters stops, a turn, or possible by the calls alone; in a
-- quiet history none is possible
abbrev pub NextIsPossible : Type 0
NextIsPossible =
    (P : List Entry) (output : Output) → next_output P ≡ Some output
    → (option_and_then (stop_after P) (last P) ≡ Some output)
    ⊎ (option_and_then (turn_after P) (last P) ≡ Some output) ⊎ Possible P output

abbrev pub QuietRests : Type 0
QuietRests = (P : List Entry) → Quiet P → (output : Output) → Possible P output → ⊥

-- why the call n fails when a thread ends, and with which code: it sends to it, waits for it, or is
-- in transfer with a call of it
pub data LosesPartner (P : List Entry) (thread n code : ℕ) : Type 0 where
  Sending : IsTrue (is_sending P n) → to_of P n ≡ thread
      → code ≡ failure_code Send kind.NonExistingPartner 0 → LosesPartner P thread n code
  Waiting : IsTrue (is_receiving P n) → from_specifier P n ≡ thread
      → code ≡ failure_code Receive kind.NonExistingPartner 0 → LosesPartner P thread n code
  Passing : (m : ℕ) → IsTrue (is_transferring P n m) → caller_of P m ≡ thread
      → code ≡ failure_code Send kind.Aborted (moved_bytes P n) → LosesPartner P thread n code
  Taking : (k : ℕ) → IsTrue (is_transferring P k n) → caller_of P k ≡ thread
      → code ≡ failure_code Receive kind.Aborted (moved_bytes P k) → LosesPartner P thread n code

-- an entry touches an output: both name one call; or the output fails a call that loses its
-- partner, or that is due then
pub data Touched (P : List Entry) (e : Entry) (output : Output) : Type 0 where
  Named : (n : ℕ) → IsTrue (names n e) → IsTrue (names n (Written output)) → Touched P e output
  Lost : (thread n code : ℕ) → IsTrue (breaks thread e) → LosesPartner P thread n code → output ≡ Failed n code → Touched P e output
  Due : (moment n : ℕ) → moment_in e ≡ Some moment → IsTrue (is_due_at P moment n)
      → output ≡ Failed n (timeout_code P n) → Touched P e output

-- an entry makes possible only what it touches: all else was possible before
abbrev pub EntriesTouch : Type 0
EntriesTouch =
    (P : List Entry) (e : Entry) → Legal P → Follows P e → (output : Output)
    → Possible (P ++ e ∷ []) output → Possible P output ⊎ Touched P e output

-- so a failure, an overflow or an abort, which closes each call that it names, makes nothing
-- possible
abbrev pub ClosingsOpenNothing : Type 0
ClosingsOpenNothing =
    (P : List Entry) (closing : Output) → Legal P → next_output P ≡ Some closing
    → ((n : ℕ) → IsTrue (names n (Written closing)) → IsTrue (closes n (Written closing)))
    → (output : Output) → Possible (P ++ Written closing ∷ []) output → Possible P output

-- So after a quiet history what comes of an input is of a call that it touches. One law for each
-- input; of an At see `AtBrings`.

-- an open makes nothing possible
abbrev pub OpenedStaysQuiet : Type 0
OpenedStaysQuiet = (P : List Entry) (thread space : ℕ) → Legal P → Quiet P → Quiet (P ++ Given (Opened thread space) ∷ [])

-- what can come of a new call n: it meets the receiving call m, the sending call k meets it, or it
-- fails at once
pub data MayCome (Q : List Entry) (n : ℕ) (output : Output) : Type 0 where
  Sends : (m : ℕ) → IsTrue (matches Q n m) → output ≡ meeting Q n m → MayCome Q n output
  Receives : (k : ℕ) → IsTrue (matches Q k n) → output ≡ meeting Q k n → MayCome Q n output
  Fails : (code : ℕ) → output ≡ Failed n code → MayCome Q n output

abbrev pub CalledBrings : Type 0
CalledBrings =
    (P : List Entry) (n thread : ℕ) (call : CallParts) → Legal P → Quiet P → (output : Output)
    → next_output (P ++ Given (Called n thread call) ∷ []) ≡ Some output
    → MayCome (P ++ Given (Called n thread call) ∷ []) n output

-- an ExchangeRegisters brings what it stops, in the open call of its target alone
abbrev pub ExregBrings : Type 0
ExregBrings =
    (P : List Entry) (thread target control : ℕ) → Quiet P
    → next_output (P ++ Given (Exreg thread target control) ∷ [])
    ≡ stop_after P (Given (Exreg thread target control))

abbrev pub ExregStops : Type 0
ExregStops =
    (P : List Entry) (thread target control : ℕ) → Quiet P → (output : Output)
    → next_output (P ++ Given (Exreg thread target control) ∷ []) ≡ Some output
    → (c : ℕ) × (open_call P target ≡ Some c) × IsTrue (names c (Written output))

-- and it brings one output at most
abbrev pub ExregOnce : Type 0
ExregOnce =
    (P : List Entry) (thread target control : ℕ) (outputs : List Output)
    → Legal (P ++ Given (Exreg thread target control) ∷ map Written outputs) → length outputs ≤ 1

-- the break of a thread brings the failure of a call that has it as its partner
abbrev pub BrokeFails : Type 0
BrokeFails =
    (P : List Entry) (thread : ℕ) → Legal P → Quiet P → (output : Output)
    → next_output (P ++ Given (Broke thread) ∷ []) ≡ Some output
    → (n : ℕ) × (code : ℕ) × (output ≡ Failed n code) × LosesPartner P thread n code

-- and all outputs up to the next input are such failures; after an At they are those of calls that
-- are due at its moment
abbrev pub BrokeOnlyFails : Type 0
BrokeOnlyFails =
    (P : List Entry) (thread : ℕ) (front rest : List Output) (output : Output)
    → Legal (P ++ Given (Broke thread) ∷ map Written (front ++ output ∷ rest))
    → (n : ℕ) × (code : ℕ) × (output ≡ Failed n code) × LosesPartner P thread n code

abbrev pub AtOnlyFails : Type 0
AtOnlyFails =
    (P : List Entry) (moment : ℕ) (front rest : List Output) (output : Output)
    → Legal (P ++ Given (At moment) ∷ map Written (front ++ output ∷ rest))
    → (n : ℕ) × (output ≡ Failed n (timeout_code P n))
    × IsTrue (is_due_at P moment n)

-- a copy ends the transfer that it fills
abbrev pub MovedEnds : Type 0
MovedEnds =
    (P : List Entry) (n count : ℕ) → Legal P → Quiet P → (output : Output)
    → next_output (P ++ Given (Moved n count) ∷ []) ≡ Some output
    → (m : ℕ) × (output ≡ Ended n m) × IsTrue (is_transferring P n m)
    × (moved_bytes P n + count ≡ message_size P n)
