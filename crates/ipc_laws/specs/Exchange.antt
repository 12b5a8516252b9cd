-- A call of words that meets as soon as it is entered, and one that meets nobody: what comes of it,
-- without a rule being asked.
use Rattle.std.specs.Prelude.{◌≡◌, ◌≢◌, ℕ, List, [], ◌∷◌, ◌++◌, Bool, true, ◌||◌, ◌==◌, Some, IsTrue, IsFalse, ◌⊎◌, if◌then◌else◌}
use Rattle.ipc_words.specs.ThreadId.{nilthread, anythread, anylocalthread}
use Rattle.ipc_words.specs.MsgTag.{propagates}
use Rattle.ipc_words.specs.Time.{span}
use Rattle.ipc_history.specs.CallParts.{CallParts}
use Rattle.ipc_history.specs.Entries.{names}
use Rattle.ipc_history.specs.Calls.{is_called, caller_of, to_of, message_size}
use Rattle.ipc_history.specs.Threads.{is_live, space_of}
use Rattle.ipc_history.specs.Phases.{is_sending, is_receiving}
use Rattle.ipc_history.specs.Matching.{accepts, shown_sender}
use Rattle.ipc_history.specs.Timing.{is_due_at}
use Rattle.ipc_history.specs.NextOutput.{next_output}
use Rattle.ipc_history.specs.Legal.{Legal, Follows, is_admissible}
use Rattle.ipc_history.specs.Settled.{Continued, Settled}
use Rattle.ipc_history.specs.declared.entry.Entry.{Entry}
use Rattle.ipc_history.specs.declared.entry.Entry.TheVariants.{Given, Written}
use Rattle.ipc_history.specs.declared.entry.Input.TheVariants.{At, Called}
use Rattle.ipc_history.specs.declared.entry.Output.{Output}
use Rattle.ipc_history.specs.declared.entry.Output.TheVariants.{Began, Ended}
use Rattle.ipc_laws.specs.Locality.{Possible}

-- all that the calls make possible names this call
abbrev pub Around : List Entry → ℕ → Type 0
Around P x = (output : Output) → Possible P output → IsTrue (names x (Written output))

-- a call that a thread makes after P reaches the receiving call r, which waits and takes it; it has
-- no strings, and is not propagated
pub record Reaches (P : List Entry) (thread : ℕ) (call : CallParts) (r : ℕ) : Type 0 where
  pub sends : IsFalse (call.to == nilthread)
  pub receives : IsTrue (is_receiving P r)
  pub to : call.to ≡ caller_of P r
  pub accepted : IsTrue (accepts P r thread)
  pub itself : IsFalse (propagates call.tag)
  pub words_alone : call.strings ≡ []

-- a thread that waits with this FromSpecifier lets a sender in
abbrev pub lets_in : List Entry → ℕ → ℕ → ℕ → Bool
lets_in P from thread sender =
    (if from == anythread then true
    else (if from == anylocalthread then space_of P sender == space_of P thread else from == sender))

-- and its receive phase rests: its partner is there, it has time, and nobody that it lets in waits
-- for the thread
pub record Rests (P : List Entry) (thread : ℕ) (call : CallParts) : Type 0 where
  pub partner : IsTrue ((call.from == anythread) || (call.from == anylocalthread) || is_live P call.from)
  pub patient : span call.receive_period ≢ Some 0
  pub alone : (k : ℕ) → IsTrue (is_sending P k) → to_of P k ≡ thread
      → IsFalse (lets_in P call.from thread (shown_sender P k))

-- the call is entered, its transfer begins, and ends
abbrev pub called : List Entry → ℕ → ℕ → CallParts → List Entry
called P n thread call = P ++ Given (Called n thread call) ∷ []

abbrev pub begun : List Entry → ℕ → ℕ → CallParts → ℕ → List Entry
begun P n thread call r = called P n thread call ++ Written (Began n r) ∷ []

abbrev pub exchanged : List Entry → ℕ → ℕ → CallParts → ℕ → List Entry
exchanged P n thread call r = begun P n thread call r ++ Written (Ended n r) ∷ []

-- so it goes on; all that may come then is of the call, and no end of a transfer; and the history
-- has settled where the call has no receive phase, or that rests
pub record Exchanges (P : List Entry) (n thread : ℕ) (call : CallParts) (r : ℕ) : Type 0 where
  pub begins : next_output (called P n thread call) ≡ Some (Began n r)
  pub ends : next_output (begun P n thread call r) ≡ Some (Ended n r)
  pub continued : Continued (called P n thread call) (exchanged P n thread call r)
  pub around : Around (exchanged P n thread call r) n
  pub none_ends : (k m : ℕ) → Possible (exchanged P n thread call r) (Ended k m) → ⊥
  pub settled : (call.from ≡ nilthread) ⊎ Rests P thread call
      → Settled (called P n thread call) (exchanged P n thread call r)

abbrev pub CallExchanges : Type 0
CallExchanges =
    (P : List Entry) (n thread : ℕ) (call : CallParts) (r : ℕ) → Legal P → Follows P (Given (Called n thread call))
    → Reaches P thread call r → Exchanges P n thread call r

-- nor does an At change this at which nothing is due; all premises are of the history before it
pub record ExchangesLater (P : List Entry) (moment n thread : ℕ) (call : CallParts) (r : ℕ) : Type 0 where
  pub reaches : Reaches (P ++ Given (At moment) ∷ []) thread call r
  pub exchange : Exchanges (P ++ Given (At moment) ∷ []) n thread call r
  pub rests : Rests P thread call → Rests (P ++ Given (At moment) ∷ []) thread call

abbrev pub CallExchangesLater : Type 0
CallExchangesLater =
    (P : List Entry) (moment n thread : ℕ) (call : CallParts) (r : ℕ) → Legal P → Follows P (Given (At moment))
    → ((k : ℕ) → IsTrue (is_called P k) → IsFalse (is_due_at P moment k))
    → IsTrue (is_admissible P (Called n thread call)) → Reaches P thread call r
    → ExchangesLater P moment n thread call r

-- a transfer without bytes ends as soon as it has begun, wherever it begins, but for a propagated
-- message
abbrev pub BeganEnds : Type 0
BeganEnds =
    (P : List Entry) (n m : ℕ) → Legal P → next_output P ≡ Some (Began n m) → message_size P n ≡ 0
    → shown_sender P n ≡ caller_of P n → next_output (P ++ Written (Began n m) ∷ []) ≡ Some (Ended n m)

-- a call that a thread makes after P meets nobody: its receiver lives, is another thread, and has
-- no receive phase that waits and takes it; and the call has time, and is not propagated
pub record Waits (P : List Entry) (thread : ℕ) (call : CallParts) : Type 0 where
  pub sends : IsFalse (call.to == nilthread)
  pub lives : IsTrue (is_live P call.to)
  pub other : IsFalse (call.to == thread)
  pub itself : IsFalse (propagates call.tag)
  pub patient : span call.send_period ≢ Some 0
  pub unmet : (r : ℕ) → IsTrue (is_receiving P r) → caller_of P r ≡ call.to → IsFalse (accepts P r thread)

-- so it has settled as soon as it is entered
abbrev pub CallWaits : Type 0
CallWaits =
    (P : List Entry) (n thread : ℕ) (call : CallParts) → Legal P → Follows P (Given (Called n thread call))
    → Waits P thread call → Settled (called P n thread call) (called P n thread call)
