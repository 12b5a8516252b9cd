-- What is said of a history whose entries are counted.
use Rattle.std.specs.Prelude.{◌≡◌, List, Bool, false, ⊤}
use Rattle.ipc_history.specs.Legal.{Legal}
use Rattle.ipc_history.specs.declared.entry.Entry.{Entry}
use Rattle.l4sh_state.specs.States.{IsFaultAt}
use Rattle.l4sh_look.specs.Events.{events_in}
use Rattle.l4sh_look.specs.Tallies.{IsCounted}
use Rattle.l4sh_look.specs.declared.counts.Counts.{Counts}
use Rattle.l4sh_look.specs.declared.walk.CountFault.{CountFault}
use Rattle.l4sh_look.specs.declared.walk.CountFault.TheVariants.{Illegal, NoMemory}

-- a legal history, and the counts of what its entries add
pub record IsTold (H : List Entry) (counts : Counts) : Type 0 where
  pub legal : Legal H
  pub counted : IsCounted (events_in H) counts

-- the entries before the place are legal, those up to it are not
abbrev pub IsFaultOf : List Entry → CountFault → Type 0
IsFaultOf H (Illegal index) = IsFaultAt H index
IsFaultOf H NoMemory = ⊤

-- of a legal history that is given entry by entry all is counted, unless there was no memory
pub record IsCounting (H : List Entry) (counts : Counts) (is_lost : Bool) : Type 0 where
  pub counted : is_lost ≡ false → Legal H → IsCounted (events_in H) counts
