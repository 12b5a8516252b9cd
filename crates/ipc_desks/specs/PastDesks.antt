-- Desks, and the history that they are of.
use Rattle.std.specs.Prelude.{ℕ, List}
use Rattle.ipc_history.specs.Legal.{Legal}
use Rattle.ipc_history.specs.declared.entry.Entry.{Entry}
use Rattle.ipc_desks.specs.Desks.{Keeps}
use Rattle.ipc_desks.specs.declared.desk.Desk.{Desk}

-- a history, the calls of it whose outcome was taken, and what is kept of it
pub record PastDesks : Type 0 where
  pub past : List Entry
  pub taken : List ℕ
  pub kept : List Desk

-- it is a legal one, and what is kept is what it says
pub record AreOf (P : List Entry) (taken : List ℕ) (kept : List Desk) : Type 0 where
  pub legal : Legal P
  pub keeps : Keeps P taken kept
