-- A history as contracts see it.
use Rattle.std.specs.Prelude.{ℕ, List}
use Rattle.ipc_history.specs.declared.entry.Entry.{Entry}

-- what memory holds of a history: some of the entries before a place, oldest first, with their
-- places, counted from 0, and from that place on all; and up to which place the entries are marked
pub record HeldParts : Type 0 where
  pub front : List Entry
  pub places : List ℕ
  pub whole_from : ℕ
  pub mark : ℕ

-- its entries, oldest first; which of them are held; and how many it has room for, with those that
-- were let go
pub record HistoryParts : Type 0 where
  pub entries : List Entry
  pub held : HeldParts
  pub room : ℕ
