use Rattle.std.proofs.Common.{refl}
use Rattle.ipc_waits.proofs.AtPlaces.{found_at}
use Rattle.ipc_waits.proofs.next.ReadWaiting.waiting_output.Goals as goal

pub least-requires-clause-asks : goal.least-requires-clause-asks
least-requires-clause-asks c = (found_at c.waiting-waiting.result.now.slots.past c.waiting-waiting.result.now.candidates c.kept.ensures.legal c.waiting-waiting.ensures.waiting.covers).ends

pub least-requires-2-clause-asks : goal.least-requires-2-clause-asks
least-requires-2-clause-asks c = (found_at c.waiting-waiting.result.now.slots.past c.waiting-waiting.result.now.candidates c.kept.ensures.legal c.waiting-waiting.ensures.waiting.covers).fails

pub returns-in-Some-least : goal.returns-in-Some-least
returns-in-Some-least c = rw (← c.waiting-waiting.ensures.same, ← c.least.ensures, c.in_default.is, ← c.least-2.ensures, c.in-Some-least.is) refl
