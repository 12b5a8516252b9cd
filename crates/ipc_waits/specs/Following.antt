-- Queues and candidates in step with slots.
use Rattle.std.specs.Prelude.{◌≡◌, ◌<◌, Option, None, IfSome, is_some}
use Rattle.ipc_words.specs.Limits.{table_slots}
use Rattle.ipc_threads.specs.Slots.{slot_at}
use Rattle.ipc_threads.specs.Steps.{standing_in}
use Rattle.ipc_threads.specs.declared.changes.Change.{Change}
use Rattle.ipc_waits.specs.Candidates.{FollowsPlace}
use Rattle.ipc_waits.specs.Keys.{HaveAt, SameElsewhere}
use Rattle.ipc_waits.specs.declared.waiting.Waiting.{Waiting}

-- the queues have of this place the waits of the call that it held before
abbrev pub CanFollow : Waiting → Option Change → Type 0
CanFollow waiting change = IfSome change (λ c. (c.place < table_slots) × HaveAt waiting.waits c.place c.before)

-- from then on they have those of the call that the slot holds; elsewhere they are as they were
pub record Followed (old new : Waiting) (change : Change) : Type 0 where
  pub here : HaveAt new.waits change.place (standing_in (slot_at old.slots.kept.table change.place))
  pub elsewhere : SameElsewhere old.waits new.waits change.place
  pub candidates : FollowsPlace old.candidates new.candidates change.place
      (is_some (standing_in (slot_at old.slots.kept.table change.place)))

pub record FollowsChange (old new : Waiting) (change : Option Change) : Type 0 where
  pub slots : new.slots ≡ old.slots
  pub followed : IfSome change (Followed old new)
  pub nothing : change ≡ None → new ≡ old
