-- What two histories have to agree in so that they go on in one way.
use Rattle.std.specs.Prelude.{◌≡◌, ℕ, List, ◌++◌, true, false, Some, option_and_then}
use Rattle.std.specs.List.{list_any}
use Rattle.ipc_history.specs.Words.{last}
use Rattle.ipc_history.specs.Entries.{ends}
use Rattle.ipc_history.specs.Calls.{calls_made, call_at, caller_of}
use Rattle.ipc_history.specs.Threads.{now, is_live, is_taken, has_broken, space_of, next_version}
use Rattle.ipc_history.specs.Phases.{is_sent, is_over, receiver_of, sender_of, moved_bytes}
use Rattle.ipc_history.specs.Matching.{before_call, from_specifier, is_propagated, shown_sender}
use Rattle.ipc_history.specs.Timing.{receive_start}
use Rattle.ipc_history.specs.NextOutput.{next_output, stop_after, turn_after}
use Rattle.ipc_history.specs.Legal.{Legal, Quiet, is_admissible}
use Rattle.ipc_history.specs.declared.entry.Entry.{Entry}
use Rattle.ipc_history.specs.declared.entry.Input.{Input}
use Rattle.ipc_compact.specs.Compact.{kept_of, further_calls, last_version, compact}

-- an open call
pub record SameCall (P Q : List Entry) (n : ℕ) : Type 0 where
  pub call : call_at P n ≡ call_at Q n
  pub receiver : receiver_of P n ≡ receiver_of Q n
  pub sender : sender_of P n ≡ sender_of Q n
  pub sent : is_sent P n ≡ is_sent Q n
  pub bytes : moved_bytes P n ≡ moved_bytes Q n
  pub wanted : from_specifier P n ≡ from_specifier Q n
  pub propagated : is_propagated P n ≡ is_propagated Q n
  pub shown : shown_sender P n ≡ shown_sender Q n
  pub space : space_of P (shown_sender P n) ≡ space_of Q (shown_sender Q n)
  pub begun : now (before_call P n) ≡ now (before_call Q n)
  pub started : receive_start P n ≡ receive_start Q n
  pub ended : (m : ℕ) → list_any (ends n m) P ≡ list_any (ends n m) Q
  pub got : (k : ℕ) → list_any (ends k n) P ≡ list_any (ends k n) Q

-- the other call of its transfer
pub record SamePartner (P Q : List Entry) (k : ℕ) : Type 0 where
  pub caller : caller_of P k ≡ caller_of Q k
  pub broken : has_broken P (caller_of P k) ≡ has_broken Q (caller_of Q k)
  pub bytes : moved_bytes P k ≡ moved_bytes Q k

-- the moment, how many calls there were, which are open, which threads live where, the versions,
-- and the open calls with their partners
pub record Agree (P Q : List Entry) : Type 0 where
  pub moment : now P ≡ now Q
  pub made : calls_made P ≡ calls_made Q
  pub over : (n : ℕ) → is_over P n ≡ is_over Q n
  pub live : (t : ℕ) → is_live P t ≡ is_live Q t
  pub space : (t : ℕ) → is_live P t ≡ true → space_of P t ≡ space_of Q t
  pub taken : (k : ℕ) → is_taken P k ≡ is_taken Q k
  pub version : (k : ℕ) → next_version P k ≡ next_version Q k
  pub calls : (n : ℕ) → is_over P n ≡ false → SameCall P Q n
  pub receivers : (n m : ℕ) → is_over P n ≡ false → receiver_of P n ≡ Some m → SamePartner P Q m
  pub senders : (n k : ℕ) → is_over P n ≡ false → sender_of P n ≡ Some k → SamePartner P Q k

-- the same comes of their last entries: they are one, or nothing comes of either
pub record SameEnd (P Q : List Entry) : Type 0 where
  pub stops : option_and_then (stop_after P) (last P) ≡ option_and_then (stop_after Q) (last Q)
  pub turns : option_and_then (turn_after P) (last P) ≡ option_and_then (turn_after Q) (last Q)

abbrev pub SameOutput : Type 0
SameOutput = (P Q : List Entry) → Legal P → Legal Q → Agree P Q → SameEnd P Q → next_output P ≡ next_output Q

abbrev pub SameInputs : Type 0
SameInputs = (P Q : List Entry) → Legal P → Legal Q → Agree P Q → (input : Input) → is_admissible P input ≡ is_admissible Q input

-- two histories with one compact
pub record SameCompact (P Q : List Entry) (one other : List ℕ) : Type 0 where
  pub kept : kept_of P one ≡ kept_of Q other
  pub over : further_calls P one ≡ further_calls Q other
  pub calls : calls_made P ≡ calls_made Q
  pub versions : (k : ℕ) → last_version P k ≡ last_version Q k

-- they agree
abbrev pub CompactAgrees : Type 0
CompactAgrees = (P Q : List Entry) (one other : List ℕ) → Legal P → Legal Q → SameCompact P Q one other → Agree P Q

-- and go on with the same entries: what is legal after one is legal after the other
abbrev pub CompactFollows : Type 0
CompactFollows =
    (P Q : List Entry) (one other : List ℕ) → Legal P → Legal Q → Quiet P → Quiet Q → compact P one ≡ compact Q other
    → (X : List Entry) → Legal (P ++ X) → Legal (Q ++ X)
