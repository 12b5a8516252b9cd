-- What memory keeps of a history that is compacted, and what a compaction does to a kernel.
use Rattle.std.specs.Prelude.{◌≡◌, ℕ, ◌+◌, ◌-◌, ◌^◌, ◌≤◌, List, length, min}
use Rattle.ipc_history.specs.Holding.{held_of, reached}
use Rattle.ipc_history.specs.HistoryParts.{HeldParts, HistoryParts}
use Rattle.ipc_compact.specs.Compact.{kept_before, kept_of, kept_places}
use Rattle.ipc_core.specs.KernelParts.{KernelParts, history_of}
use Rattle.ipc_core.specs.declared.answers.Compacted.{Compacted}

-- what is held where these outcomes were taken: of the entries before the place what the compact
-- keeps (ipc_compact), with their places, and all from it on. Where the place is the end, that is
-- the compact. The mark stays
abbrev pub kept_to : List ℕ → ℕ → HistoryParts → HeldParts
kept_to taken upto history = record {
  front = kept_before history.entries taken (reached upto history);
  places = kept_places history.entries taken (reached upto history);
  whole_from = reached upto history;
  mark = history.held.mark;
}

-- the greatest number of entries of a history, with those that were let go
abbrev pub most_entries : ℕ
most_entries = 2 ^ 63 - 1

-- a compaction up to a place: the history stays, and all that any command asks; what was let go
-- counts no longer
pub record Compacts (old new : KernelParts) (upto : ℕ) (done : Compacted) : Type 0 where
  pub history : new.history ≡ old.history
  pub held : new.held ≡ kept_to old.taken upto (history_of old)
  pub left : done.left ≡ length (held_of (history_of new))
  pub dropped : done.dropped + done.left ≡ length (held_of (history_of old))
  pub entries_limit : new.entries_limit ≡ min (old.entries_limit + done.dropped) most_entries
  pub room : new.room ≡ old.room + done.dropped
  pub taken : new.taken ≡ old.taken
  pub since : new.since ≡ length old.history
  pub moment : new.moment ≡ old.moment
  pub calls_limit : new.calls_limit ≡ old.calls_limit

-- behind a compaction that went up to the end memory holds the compact: to it belongs the base of
-- the history (ipc_compact)
abbrev pub HoldsCompact : Type 0
HoldsCompact =
    (old new : KernelParts) (upto : ℕ) (done : Compacted) → Compacts old new upto done
    → old.held.whole_from ≤ length old.history → length old.history ≤ upto
    → held_of (history_of new) ≡ kept_of new.history new.taken
