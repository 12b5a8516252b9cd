-- The waits that an entry touches.
use Rattle.std.specs.Prelude.{List, []}
use Rattle.ipc_history.specs.declared.entry.Entry.{Entry}
use Rattle.ipc_history.specs.declared.entry.Entry.TheVariants.{Given}
use Rattle.ipc_history.specs.declared.entry.Input.TheVariants.{At, Broke}
use Rattle.ipc_waits.specs.Queues.{under, until}
use Rattle.ipc_waits.specs.declared.queue.Wait.{Wait}
use Rattle.ipc_waits.specs.declared.queues.Waits.{Waits}

-- of the calls that it touches without naming them: a break those that watch the thread, a moment
-- those that are due then
abbrev pub waits_touched : Entry → Waits → List Wait
waits_touched (Given (Broke thread)) waits = under thread waits.watchers
waits_touched (Given (At moment)) waits = until moment waits.deadlines
waits_touched _ waits = []
