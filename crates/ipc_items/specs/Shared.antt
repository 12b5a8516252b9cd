-- Rows of one owner, or of several.
use Rattle.std.specs.Prelude.{List}
use Rattle.std.specs.Arc.{arc_value}
use Rattle.ipc_items.specs.declared.kept.Owned.{Owned}
use Rattle.ipc_items.specs.declared.kept.Owned.TheVariants.{Sole, Shared}

-- the rows
abbrev pub owned_rows : {X : Type 0} → Owned X → List (List X)
owned_rows (Sole rows) = rows
owned_rows (Shared rows) = arc_value rows
