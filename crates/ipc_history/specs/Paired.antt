-- The promise of the product, over a history H, in six clauses: successful send phases and received
-- messages pair one to one; each received message is, whole, that of one send to that thread,
-- showing its caller or a permitted originator; one caller's messages to one receiver come in
-- sending order; a send that ended otherwise is received by nobody; no ended thread takes part.
use Rattle.std.specs.Prelude.{◌≡◌, ℕ, ◌*◌, ◌<◌, ◌≤◌, List, ◌∷◌, ◌++◌, Some, None, IsTrue, IsFalse}
use Rattle.std.specs.Prelude.{◌≢◌, ◌⊎◌, count_by, take, map, length}
use Rattle.std.specs.List.{list_any}
use Rattle.ipc_items.specs.Fit.{overflow_offset}
use Rattle.ipc_history.specs.Words.{before}
use Rattle.ipc_history.specs.Entries.{ends, ends_send, ends_receive, names, fails_send}
use Rattle.ipc_history.specs.Calls.{caller_of, to_of, tag_of, originator_of, words_of, strings_of, buffers_of, message_size}
use Rattle.ipc_history.specs.Threads.{has_broken, is_live, space_of}
use Rattle.ipc_history.specs.Phases.{is_sent, moved_bytes}
use Rattle.ipc_history.specs.Matching.{before_call, is_propagated, shown_sender, accepts}
use Rattle.ipc_words.specs.MsgTag.{label_of, untyped_of}
use Rattle.ipc_words.specs.TagFields.{received_tag}
use Rattle.ipc_items.specs.Pieces.{joined}
use Rattle.ipc_history.specs.Outcomes.{OutcomeParts, outcome_of, pieces_in}
use Rattle.ipc_history.specs.declared.entry.Entry.{Entry}
use Rattle.ipc_history.specs.declared.entry.Entry.TheVariants.{Given, Written}
use Rattle.ipc_history.specs.declared.entry.Input.TheVariants.{Broke}
use Rattle.ipc_history.specs.declared.entry.Output.TheVariants.{Began}

-- a pair: the send of n was received by m
abbrev pub IsPair : List Entry → ℕ → ℕ → Type 0
IsPair H n m = IsTrue (list_any (ends n m) H)

-- the outcome of m has the message of n, its strings in the buffer strings of m
pub record Delivers (H : List Entry) (n m : ℕ) : Type 0 where
  pub told : OutcomeParts
  pub is_told : outcome_of H m ≡ Some told
  pub tag : told.tag ≡ received_tag (tag_of H n) (2 * length (strings_of H n)) (is_propagated H n)
  pub label : label_of told.tag ≡ label_of (tag_of H n)
  pub untyped : untyped_of told.tag ≡ untyped_of (tag_of H n)
  pub words : take (length (words_of H n)) told.words ≡ words_of H n
  pub strings : map joined (pieces_in told) ≡ strings_of H n
  pub sender : told.sender ≡ shown_sender H n

-- the message of n came whole, and to the thread that it was sent to; m's caller is told of it
-- unless that caller has ended
pub record IsWhole (H : List Entry) (n m : ℕ) : Type 0 where
  pub to_caller : to_of H n ≡ caller_of H m
  pub all_moved : moved_bytes H n ≡ message_size H n
  pub fitted : overflow_offset (strings_of H n) (buffers_of H m) ≡ None
  pub delivered : IsFalse (has_broken H (caller_of H m)) → Delivers H n m

-- the originator of n may be shown in the place of its caller: when n was called it was live and of
-- the caller's space
pub record IsPermitted (H : List Entry) (n : ℕ) : Type 0 where
  pub live : IsTrue (is_live (before_call H n) (originator_of H n))
  pub same_space : space_of (before_call H n) (originator_of H n) ≡ space_of (before_call H n) (caller_of H n)

-- the message of n shows its caller or a permitted originator, and m accepted that sender when the
-- transfer began
pub record IsShown (H : List Entry) (n m : ℕ) : Type 0 where
  pub who : (shown_sender H n ≡ caller_of H n) ⊎ ((shown_sender H n ≡ originator_of H n) × IsPermitted H n)
  pub front : List Entry
  pub rest : List Entry
  pub began : H ≡ front ++ Written (Began n m) ∷ rest
  pub wanted : IsTrue (accepts front m (shown_sender H n))

-- the six clauses
pub record Paired (H : List Entry) : Type 0 where
  -- 1. successful sends and received messages pair one to one
  pub one_send : (n : ℕ) → count_by (ends_send n) H ≤ 1
  pub one_receive : (m : ℕ) → count_by (ends_receive m) H ≤ 1
  -- 2. each is whole, and to that thread
  pub whole : (n m : ℕ) → IsPair H n m → IsWhole H n m
  -- 3. it shows its caller or a permitted originator
  pub showing : (n m : ℕ) → IsPair H n m → IsShown H n m
  -- 4. one caller's messages to one receiver come in sending order
  pub in_order : (n m k j : ℕ) → IsPair H n m → IsPair H k j
      → caller_of H n ≡ caller_of H k → caller_of H m ≡ caller_of H j → n < k
      → (m < j) × IsTrue (list_any (ends n m) (before (ends k j) H))
  -- 5. a send that ended otherwise is received by nobody
  pub ended_otherwise : (n : ℕ) → IsTrue (list_any (fails_send n) H) → IsFalse (is_sent H n)
  pub broke_before : (n : ℕ) (P rest : List Entry)
      → H ≡ P ++ Given (Broke (caller_of H n)) ∷ rest → IsFalse (is_sent P n)
      → IsFalse (is_sent H n)
  -- 6. no ended thread takes part
  pub no_ended_thread : (thread : ℕ) (P rest : List Entry)
      → H ≡ P ++ Given (Broke thread) ∷ rest
      → (n : ℕ) → IsTrue (list_any (names n) rest) → caller_of H n ≢ thread
