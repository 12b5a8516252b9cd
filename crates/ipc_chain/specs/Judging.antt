-- What is known of a history that is judged entry by entry, and of a part behind it.
use Rattle.std.specs.Prelude.{◌≡◌, ℕ, ◌≤◌, ◌<◌, List, [], ◌∷◌, ◌++◌, length, Some, IsTrue, IsFalse, ◌⊎◌}
use Rattle.ipc_words.specs.ThreadId.{number_of}
use Rattle.ipc_history.specs.Calls.{caller_of, is_called, last_call}
use Rattle.ipc_history.specs.HistoryParts.{HistoryParts}
use Rattle.ipc_history.specs.Legal.{Follows, Legal}
use Rattle.ipc_history.specs.Phases.{is_over}
use Rattle.ipc_history.specs.Threads.{is_live}
use Rattle.ipc_history.specs.declared.entry.Entry.{Entry}
use Rattle.ipc_threads.specs.PastSlots.{PastSlots}
use Rattle.ipc_desks.specs.PastDesks.{PastDesks}
use Rattle.ipc_compact.specs.Compact.{Base, base_of, is_among, kept_of}
use Rattle.ipc_compact.specs.Later.{AreAmong}
use Rattle.ipc_compact.specs.Places.{WasPlaced}
use Rattle.ipc_compact.specs.Kept.{TookOthers}
use Rattle.ipc_compact.specs.PastPartners.{PastPartners}
use Rattle.ipc_trace.specs.Parts.{PartParts}
use Rattle.ipc_chain.specs.Chains.{BeginsAt, ChainFrom, IsChain, entries_of}

-- the entries so far, what memory holds of them, the calls whose outcome was surely taken, and how
-- many takes the last part told
pub record ChainParts : Type 0 where
  pub past : List Entry
  pub held : List Entry
  pub taken : List ℕ
  pub told : ℕ

-- what is kept of a history is of it
pub record IsJudged (history : HistoryParts) (slots : PastSlots) (desks : PastDesks) (partners : PastPartners) (takes : ℕ) : Type 0 where
  pub legal : Legal history.entries
  pub slots_of : slots.past ≡ history.entries
  pub desks_of : desks.past ≡ history.entries
  pub partners_of : partners.past ≡ history.entries
  pub others : TookOthers history.entries desks.taken
  pub counted : takes ≡ length desks.taken
  pub kept : WasPlaced history.entries desks.taken history.held.front history.held.places history.held.whole_from
  pub within : history.held.whole_from ≤ length history.entries

-- outcomes of calls that are over were taken, and of each thread those of all calls but the last
pub record AreBooks (H : List Entry) (taken : List ℕ) : Type 0 where
  pub legal : Legal H
  pub called : (n : ℕ) → IsTrue (is_among n taken) → IsTrue (is_called H n)
  pub over : (n : ℕ) → IsTrue (is_among n taken) → IsTrue (is_over H n)
  pub others : TookOthers H taken

-- the outcome of a call was taken, whichever were: that of each call but the last of its thread
abbrev pub IsSure : List Entry → ℕ → Type 0
IsSure H n = (taken : List ℕ) → TookOthers H taken → IsTrue (is_among n taken)

-- more outcomes were taken, each of which surely was
pub record TakesSure (H : List Entry) (old new : List ℕ) : Type 0 where
  pub more : AreAmong old new
  pub sure : (n : ℕ) → IsTrue (is_among n new) → IsTrue (is_among n old) ⊎ IsSure H n

-- an entry follows, and is noted; or it does not
pub record GoesOn (old new : ChainParts) (entry : Entry) : Type 0 where
  pub follows : Follows old.past entry
  pub past : new.past ≡ old.past ++ entry ∷ []
  pub taken : TakesSure new.past old.taken new.taken
  pub told : new.told ≡ old.told

-- entries follow, and are noted
pub record Walks (old new : ChainParts) (entries : List Entry) : Type 0 where
  pub past : new.past ≡ old.past ++ entries
  pub taken : TakesSure new.past old.taken new.taken
  pub told : new.told ≡ old.told

-- the entries so far are those of the first file: no part has joined them, and no more outcomes
-- were taken than surely were
pub record IsFirstFile (chain : ChainParts) : Type 0 where
  pub sure : TakesSure chain.past [] chain.taken
  pub untold : chain.told ≡ 0

-- one more outcome was taken, that of the last call of a live thread; or none was, where there is
-- none to take
pub record TakesLast (H : List Entry) (t : ℕ) (old new : List ℕ) : Type 0 where
  pub more : AreAmong old new
  pub only : (n : ℕ) → IsTrue (is_among n new) → IsTrue (is_among n old) ⊎ (last_call H t ≡ Some n)
  pub all : (n : ℕ) → last_call H t ≡ Some n → IsTrue (is_over H n) → IsTrue (is_among n new)

-- each live thread below a number, but for these threads, took its outcome, and no other did
pub record TakesBelow (H : List Entry) (callers : List ℕ) (place : ℕ) (old new : List ℕ) : Type 0 where
  pub more : AreAmong old new
  pub only : (n : ℕ) → IsTrue (is_among n new)
      → IsTrue (is_among n old) ⊎ (IsTrue (is_live H (caller_of H n)) × IsFalse (is_among (caller_of H n) callers))
  pub all : (t n : ℕ) → IsTrue (is_live H t) → number_of t < place → IsFalse (is_among t callers)
      → last_call H t ≡ Some n → IsTrue (is_over H n) → IsTrue (is_among n new)

-- a part begins there, and what was surely taken is among what was taken
pub record Joins (old new : ChainParts) (base : Base) (kept : List Entry) : Type 0 where
  pub begins : BeginsAt old.past old.taken old.told base kept new.taken
  pub least : (taken : List ℕ) → BeginsAt old.past old.taken old.told base kept taken → AreAmong new.taken taken
  pub past : new.past ≡ old.past
  pub told : new.told ≡ base.takes

-- the base, but for how many outcomes were taken, and the kept entries are those of a history of
-- which these were taken
pub record SaysAs (H : List Entry) (taken : List ℕ) (base : Base) (kept : List Entry) : Type 0 where
  pub kept_is : kept_of H taken ≡ kept
  pub base_is : record (base_of H taken) { takes = base.takes } ≡ base

-- the entries so far are those of some history that ends as the first of these parts says, and then
-- those of the parts; what stands behind the entries stands behind the parts
pub record StandsBehind (parts : List PartParts) (chain : ChainParts) : Type 0 where
  pub before : List Entry
  pub past : chain.past ≡ before ++ entries_of parts
  pub goes : (rest : List PartParts) → ChainFrom chain.past chain.taken chain.told rest → IsChain before (parts ++ rest)
