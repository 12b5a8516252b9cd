-- As whom a receiver is shown the sender (L4 X.2 manual, Ipc: propagation): the originator where it
-- is a live thread of the caller's space.
use Rattle.std.specs.Prelude.{ℕ, ◌==◌, Bool, true, false, Option, Some, None, if◌then◌else◌}
use Rattle.l4sh_state.specs.declared.spaces.ShownAs.{ShownAs}
use Rattle.l4sh_state.specs.declared.spaces.ShownAs.TheVariants.{Caller, Originator, Dropped}

-- by the flag p, the originator, its space and that of the caller, where they are live
abbrev pub shown_as : Bool → ℕ → Option ℕ → Option ℕ → ShownAs
shown_as false originator its own = Caller
shown_as true originator (Some its) (Some own) = if its == own then Originator originator else Dropped originator
shown_as true originator (Some its) None = Dropped originator
shown_as true originator None own = Dropped originator
