use Rattle.ipc_core.proofs.Few.{obeys_few}
use Rattle.ipc_core.proofs.Obeyed.{at_obeys}
use Rattle.ipc_core.proofs.kernel.Kernel.at.Goals as goal

pub returns-clause-obeys : goal.returns-clause-obeys
returns-clause-obeys c = at_obeys _ _ c.args.now (record {
  moment = c.set_clock.ensures.moment;
  history = c.set_clock.ensures.history;
  legal = λ was. c.history.ensures.legal;
  since = c.set_clock.ensures.since;
  taken = c.set_clock.ensures.taken;
  entries_limit = c.set_clock.ensures.entries_limit;
  calls_limit = c.set_clock.ensures.calls_limit;
  held = c.set_clock.ensures.held;
  room = c.set_clock.ensures.room;
})

pub returns-clause-ticks : goal.returns-clause-ticks
returns-clause-ticks c = record {
  moment = c.set_clock.ensures.moment;
  history = c.set_clock.ensures.history;
  legal = λ was. c.history.ensures.legal;
  since = c.set_clock.ensures.since;
  taken = c.set_clock.ensures.taken;
  entries_limit = c.set_clock.ensures.entries_limit;
  calls_limit = c.set_clock.ensures.calls_limit;
  held = c.set_clock.ensures.held;
  room = c.set_clock.ensures.room;
}

pub returns-clause-few : goal.returns-clause-few
returns-clause-few c = obeys_few _ _ _ _ (returns-clause-obeys c) c.history.ensures.legal
