-- The laws of histories.
use Rattle.std.specs.Prelude.{◌≡◌, ℕ, zero, suc, [], ◌∷◌, ◌+◌, ◌*◌, ◌%◌, length, ◌<◌, ◌≤◌}
use Rattle.std.specs.Prelude.{List, ◌++◌, Option, Some, None, IsTrue, IsFalse, ◌⊎◌, filter_map}
use Rattle.std.specs.Prelude.{count_by, Bool, if◌then◌else◌}
use Rattle.std.specs.List.{list_any}
use Rattle.ipc_history.specs.NextOutput.{timeout_code}
use Rattle.ipc_words.specs.Limits.{max_message_words, max_string_bytes}
use Rattle.ipc_history.specs.CallParts.{CallParts, is_normal}
use Rattle.ipc_history.specs.Words.{first_some}
use Rattle.ipc_history.specs.Entries.{input_in, begins_send, begins_receive, names, calls, closes, ends}
use Rattle.ipc_history.specs.Calls.{numbers, calls_made, call_at, is_called, caller_of, tag_of, words_of, strings_of, message_size}
use Rattle.ipc_history.specs.Threads.{has_broken, is_live, now}
use Rattle.ipc_history.specs.Phases.{is_over, open_call, receiver_of, is_sending, is_transferring, is_receiving, moved_bytes}
use Rattle.ipc_history.specs.Matching.{matches}
use Rattle.ipc_history.specs.Timing.{is_due, is_due_at}
use Rattle.ipc_history.specs.NextOutput.{next_output, MovesFit}
use Rattle.ipc_history.specs.Legal.{Legal, Quiet, Follows}
use Rattle.ipc_laws.specs.Meaning.{Means}
use Rattle.ipc_history.specs.Paired.{Paired, IsPair}
use Rattle.ipc_words.specs.MsgTag.{has_failed, untyped_of, typed_of}
use Rattle.ipc_history.specs.Outcomes.{OutcomeParts, outcome_of}
use Rattle.ipc_history.specs.Settled.{Settled}
use Rattle.ipc_history.specs.declared.entry.Entry.{Entry}
use Rattle.ipc_history.specs.declared.entry.Entry.TheVariants.{Given}
use Rattle.ipc_history.specs.declared.entry.Input.{Input}
use Rattle.ipc_history.specs.declared.entry.Input.TheVariants.{At}
use Rattle.ipc_history.specs.declared.entry.Output.{Output}
use Rattle.ipc_history.specs.declared.entry.Output.TheVariants.{Failed}

-- what the next output is tells what the history before it is
abbrev pub OutputMeans : Type 0
OutputMeans = (P : List Entry) (output : Output) → next_output P ≡ Some output → Means P output

-- the calls of a legal history are in normal form
abbrev pub CallsAreNormal : Type 0
CallsAreNormal =
    (H : List Entry) → Legal H → (n thread : ℕ) (call : CallParts)
    → call_at H n ≡ Some (thread, call) → IsTrue (is_normal call)

-- so the tag of n counts its words and strings, and its strings have at most max_string_bytes
-- bytes; without a call there is nothing
pub record IsNormalMessage (H : List Entry) (n : ℕ) : Type 0 where
  pub untyped : untyped_of (tag_of H n) ≡ length (words_of H n)
  pub typed : typed_of (tag_of H n) ≡ 2 * length (strings_of H n)
  pub together : length (words_of H n) + 2 * length (strings_of H n) ≤ max_message_words
  pub size : message_size H n ≤ max_string_bytes

abbrev pub MessagesAreNormal : Type 0
MessagesAreNormal = (H : List Entry) → Legal H → (n : ℕ) → IsNormalMessage H n

-- a call that is over stays over
abbrev pub OverStays : Type 0
OverStays = (P Q : List Entry) (n : ℕ) → IsTrue (is_called P n) → IsTrue (is_over P n) → IsTrue (is_over (P ++ Q) n)

-- the outcome of a call that is over stays as it is, until its caller ends
abbrev pub OutcomesStay : Type 0
OutcomesStay =
    (P Q : List Entry) → Legal (P ++ Q) → (n : ℕ) → IsTrue (is_called P n) → IsTrue (is_over P n)
    → IsFalse (has_broken (P ++ Q) (caller_of (P ++ Q) n)) → outcome_of (P ++ Q) n ≡ outcome_of P n

-- a moment is that of the shortest front of a history after which the call, which stands there, is
-- over
pub record IsTimed (H : List Entry) (n moment : ℕ) : Type 0 where
  pub front : List Entry
  pub entry : Entry
  pub rest : List Entry
  pub whole : H ≡ front ++ entry ∷ rest
  pub still_open : IsTrue (is_called front n) → IsFalse (is_over front n)
  pub called : IsTrue (is_called (front ++ entry ∷ []) n)
  pub over : IsTrue (is_over (front ++ entry ∷ []) n)
  pub moment_is : moment ≡ now (front ++ entry ∷ [])

-- so is that of an outcome
abbrev pub OutcomesAreTimed : Type 0
OutcomesAreTimed =
    (H : List Entry) → Legal H → (n : ℕ) → IsTrue (is_called H n) → (told : OutcomeParts)
    → outcome_of H n ≡ Some told → IsTimed H n told.moment

-- but for the Called itself, an entry names only calls that are made and not over
abbrev pub NamesOpenCalls : Type 0
NamesOpenCalls =
    (P : List Entry) (e : Entry) → Follows P e → (n : ℕ) → IsTrue (names n e) → IsFalse (calls n e)
    → IsTrue (is_called P n) × IsFalse (is_over P n)

-- two open calls of one caller are one
abbrev pub OneOpenCall : Type 0
OneOpenCall =
    (H : List Entry) → Legal H → (n k : ℕ) → IsFalse (is_over H n) → IsFalse (is_over H k)
    → caller_of H n ≡ caller_of H k → n ≡ k

-- an open call is of a live thread; it is that thread's open call, and the last of its calls
pub record IsOpenCall (H : List Entry) (n : ℕ) : Type 0 where
  pub called : IsTrue (is_called H n)
  pub live : IsTrue (is_live H (caller_of H n))
  pub found : open_call H (caller_of H n) ≡ Some n
  pub last : (k : ℕ) → IsTrue (is_called H k) → caller_of H k ≡ caller_of H n → k ≤ n

abbrev pub OpenCallIsLast : Type 0
OpenCallIsLast = (H : List Entry) → Legal H → (n : ℕ) → IsFalse (is_over H n) → IsOpenCall H n

-- call order and entry order agree for each caller: where an entry names a later call of it, an
-- earlier one is over, and neither that entry nor one behind it names the earlier one
abbrev pub EntriesInOrder : Type 0
EntriesInOrder =
    (H : List Entry) → Legal H → (n k : ℕ) → n < k → caller_of H n ≡ caller_of H k
    → (P rest : List Entry) (e : Entry) → H ≡ P ++ e ∷ rest → IsTrue (names k e)
    → IsTrue (is_over P n) × IsFalse (list_any (names n) (e ∷ rest))

-- a send begins at most once, and so does a receive
abbrev pub BeginsOnce : Type 0
BeginsOnce = (H : List Entry) → Legal H → (n : ℕ) → (count_by (begins_send n) H ≤ 1) × (count_by (begins_receive n) H ≤ 1)

abbrev pub one_if : Bool → ℕ
one_if b = (if b then 1 else 0)

-- an entry closes a call at most once
abbrev pub ClosedOnce : Type 0
ClosedOnce = (H : List Entry) → Legal H → (n : ℕ) → count_by (closes n) H ≤ 1

-- a call is in at most one phase: it waits to send, passes to m, waits to receive, or receives from
-- k
abbrev pub OnePhase : Type 0
OnePhase =
    (H : List Entry) → Legal H → (n m k : ℕ)
    → one_if (is_sending H n) + one_if (is_transferring H n m) + one_if (is_receiving H n)
    + one_if (is_transferring H k n) ≤ 1

-- the two calls of a transfer that has not ended are over together, where neither caller has ended
abbrev pub OverTogether : Type 0
OverTogether =
    (H : List Entry) → Legal H → (n m : ℕ) → receiver_of H n ≡ Some m
    → IsFalse (list_any (ends n m) H) → IsFalse (has_broken H (caller_of H n))
    → IsFalse (has_broken H (caller_of H m)) → is_over H n ≡ is_over H m

-- what ended had begun
abbrev pub EndedHadBegun : Type 0
EndedHadBegun = (H : List Entry) → Legal H → (n m : ℕ) → IsTrue (list_any (ends n m) H) → receiver_of H n ≡ Some m

-- the numbers from 1 to n
abbrev pub up_to : ℕ → List ℕ
up_to zero = []
up_to (suc n) = up_to n ++ suc n ∷ []

-- the calls are numbered 1, 2, 3, ..
abbrev pub NumberedInOrder : Type 0
NumberedInOrder = (H : List Entry) → Legal H → numbers H ≡ up_to (calls_made H)

-- a send meets at most one receive
abbrev pub MeetsOne : Type 0
MeetsOne = (H : List Entry) → Legal H → (n m k : ℕ) → IsTrue (matches H n m) → IsTrue (matches H n k) → m ≡ k

-- no more bytes are copied than a message has
abbrev pub MovesWithin : Type 0
MovesWithin = (H : List Entry) → Legal H → (n : ℕ) → moved_bytes H n ≤ message_size H n

-- so no call has copied more bytes than a message may have
abbrev pub MovesFitLegal : Type 0
MovesFitLegal = (H : List Entry) → Legal H → MovesFit H

-- in a quiet history a transfer has bytes left
abbrev pub QuietMoves : Type 0
QuietMoves = (H : List Entry) → Legal H → Quiet H → (n m : ℕ) → IsTrue (is_transferring H n m) → moved_bytes H n < message_size H n

-- after an At a call is due where it is due at that moment
abbrev pub AtMakesDue : Type 0
AtMakesDue =
    (P : List Entry) (moment n : ℕ) → IsTrue (is_called P n)
    → is_due (P ++ Given (At moment) ∷ []) n ≡ is_due_at P moment n

-- at a moment, the failure of a call whose waiting phase is due then
unfoldable pub timeout_at : List Entry → ℕ → ℕ → Option Output
timeout_at P moment n = (if is_due_at P moment n then Some (Failed n (timeout_code P n)) else None)

-- after a quiet history an At brings the failure of the least call that is due at that moment, so
-- nothing where no call is
abbrev pub AtBrings : Type 0
AtBrings =
    (P : List Entry) (moment : ℕ) → Quiet P
    → next_output (P ++ Given (At moment) ∷ []) ≡ first_some (timeout_at P moment) (numbers P)

abbrev pub AtStaysQuiet : Type 0
AtStaysQuiet =
    (P : List Entry) (moment : ℕ) → Quiet P
    → ((n : ℕ) → IsTrue (is_called P n) → IsFalse (is_due_at P moment n))
    → Quiet (P ++ Given (At moment) ∷ [])

abbrev pub AtFails : Type 0
AtFails =
    (P : List Entry) (moment : ℕ) → Quiet P → (output : Output)
    → next_output (P ++ Given (At moment) ∷ []) ≡ Some output
    → (n : ℕ) × (code : ℕ) × (output ≡ Failed n code)

-- the headline
abbrev pub LegalIsPaired : Type 0
LegalIsPaired = (H : List Entry) → Legal H → Paired H

-- beside the headline: whose send was received sees an outcome without E, or an ErrorCode with p=1
abbrev pub SenderSees : Type 0
SenderSees =
    (H : List Entry) → Legal H → (n m : ℕ) → IsPair H n m → (told : OutcomeParts)
    → outcome_of H n ≡ Some told → IsFalse (has_failed told.tag) ⊎ (told.error % 2 ≡ 1)

abbrev pub inputs : List Entry → List Input
inputs H = filter_map input_in H

abbrev pub Begins : List Entry → List Entry → Type 0
Begins P H = (rest : List Entry) × (H ≡ P ++ rest)

-- one more entry that may follow keeps a history legal, and each settles by outputs alone
abbrev pub MayFollow : Type 0
MayFollow = (P : List Entry) (e : Entry) → Legal P → Follows P e → Legal (P ++ e ∷ [])

abbrev pub Settles : Type 0
Settles = (P : List Entry) → Legal P → (Q : List Entry) × Settled P Q

abbrev pub SettlesOnce : Type 0
SettlesOnce = (P Q R : List Entry) → Legal P → Settled P Q → Settled P R → Q ≡ R

-- of two histories with the same inputs one begins the other; two that are quiet are equal
abbrev pub Determined : Type 0
Determined = (H K : List Entry) → Legal H → Legal K → inputs H ≡ inputs K → Begins H K ⊎ Begins K H

abbrev pub QuietDetermined : Type 0
QuietDetermined = (H K : List Entry) → Legal H → Legal K → Quiet H → Quiet K → inputs H ≡ inputs K → H ≡ K
