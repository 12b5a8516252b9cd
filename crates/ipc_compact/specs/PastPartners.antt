-- The last calls of the live threads and those that met them, and the history that they are of.
use Rattle.std.specs.Prelude.{List}
use Rattle.ipc_history.specs.declared.entry.Entry.{Entry}
use Rattle.ipc_compact.specs.declared.partners.Joined.{Joined}

-- a history, and what is kept of it
pub record PastPartners : Type 0 where
  pub past : List Entry
  pub kept : List Joined
