-- The entries that are copied under one lock.
use Rattle.std.specs.Prelude.{◌≡◌, ℕ, List, drop, take}
use Rattle.ipc_history.specs.declared.entry.Entry.{Entry}

-- how many entries a group has at most
abbrev pub most_of_a_group : ℕ
most_of_a_group = 256

-- the entries of a history from a place on, counted from 0: all of them, and at most so many as a
-- group has
abbrev pub IsGroupAt : List Entry → ℕ → List Entry → Type 0
IsGroupAt history index group = group ≡ take most_of_a_group (drop index history)
