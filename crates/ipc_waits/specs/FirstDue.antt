-- The first moment at which a waiting phase is due.
use Rattle.std.specs.Prelude.{◌≡◌, ℕ, ◌+◌, ◌<◌, List, Option, IfSome}
use Rattle.std.specs.List.{list_any}
use Rattle.ipc_words.specs.Limits.{last_moment}
use Rattle.ipc_history.specs.Calls.{numbers}
use Rattle.ipc_history.specs.Timing.{is_due_at}
use Rattle.ipc_history.specs.declared.entry.Entry.{Entry}
use Rattle.ipc_waits.specs.Queues.{is_until}

-- of the moments that a clock reaches, 0 to the last one, a waiting phase is due at this one and at
-- each later one, and at no other; at none of them, where there is no such moment
pub record IsLeastDue (P : List Entry) (least : Option ℕ) : Type 0 where
  pub within : IfSome least (λ moment. moment < last_moment + 1)
  pub due : (moment : ℕ) → moment < last_moment + 1
      → list_any (is_due_at P moment) (numbers P) ≡ is_until least moment
