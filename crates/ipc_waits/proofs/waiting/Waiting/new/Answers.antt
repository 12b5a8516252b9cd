use Rattle.std.proofs.Common.{[], ◌∙◌, ap}
use Rattle.ipc_waits.proofs.AtPlaces.{quiet_covers_at}
use Rattle.ipc_threads.specs.Steps.{standing_in}
use Rattle.ipc_waits.proofs.Laws.{no_calls}
use Rattle.ipc_waits.proofs.Touches.{nothing_held, nothing_quiet}
use Rattle.ipc_waits.proofs.waiting.Waiting.new.Goals as goal

pub returns-clause-empty : goal.returns-clause-empty
returns-clause-empty g c =
    let stands = rw (c.kept.ensures.kept, c.new-slots.ensures) at c.kept.ensures.stands in
    record {
      waits = no_calls c.new-slots.result.kept.table c.in_ok-new.field-0 (λ k. ap standing_in (stands.table k) ∙ nothing_held k) c.in_ok-new.ensures.senders c.in_ok-new.ensures.watchers c.in_ok-new.ensures.deadlines;
      covers = rw c.new-slots.ensures (quiet_covers_at [] _ nothing_quiet);
    }
