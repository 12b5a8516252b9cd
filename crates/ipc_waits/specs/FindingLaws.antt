-- Where the next output is found: under the calls that the last entries touched.
use Rattle.std.specs.Prelude.{◌≡◌, ◌==◌, ◌&&◌, not, ℕ, ◌<◌, List, [], ◌∷◌, ◌++◌, Option, Some, None, find}
use Rattle.std.specs.Prelude.{IsTrue, IsFalse}
use Rattle.ipc_words.specs.ThreadId.{number_of}
use Rattle.ipc_history.specs.Calls.{caller_of, to_of}
use Rattle.ipc_history.specs.Phases.{is_over, is_receiving}
use Rattle.ipc_history.specs.Matching.{accepts, shown_sender}
use Rattle.ipc_history.specs.NextOutput.{end_of, partner_gone_of, meeting_of, timeout_of}
use Rattle.ipc_history.specs.Legal.{Legal, Quiet, Follows}
use Rattle.ipc_history.specs.declared.entry.Entry.{Entry}
use Rattle.ipc_history.specs.declared.entry.Output.{Output}
use Rattle.ipc_waits.specs.Finding.{CoversAt, is_among, senders, source_of, touched}

-- a quiet history asks no place
abbrev pub QuietCoversAt : Type 0
QuietCoversAt = (P : List Entry) (places : List ℕ) → Quiet P → CoversAt P places

-- an entry leaves the places of the open calls, and adds those of the open calls that it touches
abbrev pub EntryCoversAt : Type 0
EntryCoversAt =
    (P : List Entry) (e : Entry) (places more : List ℕ) → Legal P → Follows P e → CoversAt P places
    → ((n : ℕ) → IsFalse (is_over (P ++ e ∷ []) n) → IsTrue (is_among places (number_of (caller_of (P ++ e ∷ []) n)))
    → IsTrue (is_among more (number_of (caller_of (P ++ e ∷ []) n))))
    → ((n : ℕ) → IsTrue (is_among (touched P e) n) → IsFalse (is_over (P ++ e ∷ []) n)
    → IsTrue (is_among more (number_of (caller_of (P ++ e ∷ []) n))))
    → CoversAt (P ++ e ∷ []) more

-- an open call at one of the places
pub record IsAtPlaces (P : List Entry) (places : List ℕ) (n : ℕ) : Type 0 where
  pub opened : IsFalse (is_over P n)
  pub placed : IsTrue (is_among places (number_of (caller_of P n)))

-- a rule that speaks of a call alone gives something only at the places
abbrev pub AsksOnly : List Entry → List ℕ → (ℕ → Option Output) → Type 0
AsksOnly P places rule = (n : ℕ) (output : Output) → rule n ≡ Some output → IsAtPlaces P places n

-- and the least meeting is that of the source of a call there
pub record FoundAt (P : List Entry) (places : List ℕ) : Type 0 where
  pub ends : AsksOnly P places (end_of P)
  pub fails : AsksOnly P places (partner_gone_of P)
  pub expires : AsksOnly P places (timeout_of P)
  pub meets : (n : ℕ) (output : Output) → meeting_of P n ≡ Some output
      → ((k : ℕ) → k < n → meeting_of P k ≡ None)
      → (c : ℕ) × IsAtPlaces P places c × (source_of P c ≡ Some n)

abbrev pub RulesAt : Type 0
RulesAt = (P : List Entry) (places : List ℕ) → Legal P → CoversAt P places → FoundAt P places

-- the source of a receiving call: the first of the waiting sends to its caller that it accepts
abbrev pub SourceIsSender : Type 0
SourceIsSender =
    (P : List Entry) (m : ℕ) → IsTrue (is_receiving P m)
    → source_of P m
    ≡ find (λ k. not (to_of P k == caller_of P k) && accepts P m (shown_sender P k))
    (senders P (caller_of P m))
