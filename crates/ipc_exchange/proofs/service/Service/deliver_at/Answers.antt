use Rattle.std.proofs.Common.{◌∙◌, ap, refl, sym, arith}
use Rattle.ipc_exchange.specs.Rooms.{roomy_at}
use Rattle.ipc_exchange.proofs.DeliverLemmas.{taking, deliver_ready, deliver_told, nothing_told, stage_is, told_room, took_ready}
use Rattle.ipc_exchange.proofs.TellingLemmas.{roomy_self}
use Rattle.ipc_exchange.proofs.service.Service.deliver_at.Goals as goal

pub push_outcome-requires : goal.push_outcome-requires
push_outcome-requires c =
    let two = told_room (record { kernel = c.self.inside.kernel; connections = c.self.inside.connections; table = c.self.inside.table.items }) c.args.place c.in-Serving.thread c.in-Some.outcome (rw (← c.self.view_is) at c.requires.ready) (stage_is c.self.inside.connections c.args.place c.in-Serving.thread (roomy_at c.self.inside.connections c.args.place) (rw (← c.self.view_is) at c.requires.within) (roomy_self c.self.inside.connections c.args.place (rw (← c.self.view_is) at c.requires.within)) c.in-Serving.ensures) (sym c.in-Some.is ∙ c.take-taken.ensures.outcome) in
    record { within = (rw (← c.self.view_is) at c.requires.within); room = omega (arith, two) }

pub returns-in-Some-clause-told : goal.returns-in-Some-clause-told
returns-in-Some-clause-told c = rw (← c.self.view_is, c.push_outcome.ensures.1) (deliver_told (record { kernel = c.self.inside.kernel; connections = c.self.inside.connections; table = c.self.inside.table.items }) c.args.place c.in-Serving.thread (roomy_at c.self.inside.connections c.args.place) (roomy_at c.self.inside.connections c.args.place) _ c.in-Some.outcome _ _ (rw (← c.self.view_is) at c.requires.within) (roomy_self c.self.inside.connections c.args.place (rw (← c.self.view_is) at c.requires.within)) c.in-Serving.ensures (sym c.in-Some.is ∙ c.take-taken.ensures.outcome) (c.take-taken.ensures.taken ∙ ap (taking c.self.inside.kernel) c.in-Some.is) (roomy_self c.self.inside.connections c.args.place (rw (← c.self.view_is) at c.requires.within)) refl c.push_outcome.ensures.2)

pub returns-in-Some-clause-ready : goal.returns-in-Some-clause-ready
returns-in-Some-clause-ready c = rw (← c.self.view_is, c.push_outcome.ensures.1) (deliver_ready (record { kernel = c.self.inside.kernel; connections = c.self.inside.connections; table = c.self.inside.table.items }) c.args.place c.in-Serving.thread (roomy_at c.self.inside.connections c.args.place) (roomy_at c.self.inside.connections c.args.place) _ c.in-Some.outcome _ _ (rw (← c.self.view_is) at c.requires.within) (roomy_self c.self.inside.connections c.args.place (rw (← c.self.view_is) at c.requires.within)) c.in-Serving.ensures (sym c.in-Some.is ∙ c.take-taken.ensures.outcome) (c.take-taken.ensures.taken ∙ ap (taking c.self.inside.kernel) c.in-Some.is) (roomy_self c.self.inside.connections c.args.place (rw (← c.self.view_is) at c.requires.within)) refl c.push_outcome.ensures.2 _ (rw (← c.self.view_is) at c.requires.ready) c.history.ensures.sound c.take-taken.ensures.obeys c.push_outcome.ensures.3)

pub returns-in_default-taken-clause-told : goal.returns-in_default-taken-clause-told
returns-in_default-taken-clause-told c = rw (← c.self.view_is) (nothing_told (record { kernel = c.self.inside.kernel; connections = c.self.inside.connections; table = c.self.inside.table.items }) _ _ _ (stage_is c.self.inside.connections c.args.place c.in-Serving.thread (roomy_at c.self.inside.connections c.args.place) (rw (← c.self.view_is) at c.requires.within) (roomy_self c.self.inside.connections c.args.place (rw (← c.self.view_is) at c.requires.within)) c.in-Serving.ensures) (sym c.in_default-taken.is ∙ c.take-taken.ensures.outcome) (c.take-taken.ensures.taken ∙ ap (taking c.self.inside.kernel) c.in_default-taken.is))

pub returns-in_default-taken-clause-ready : goal.returns-in_default-taken-clause-ready
returns-in_default-taken-clause-ready c = rw (← c.self.view_is) (record { ready = took_ready (record { kernel = c.self.inside.kernel; connections = c.self.inside.connections; table = c.self.inside.table.items }) _ _ _ (rw (← c.self.view_is) at c.requires.ready) c.history.ensures.sound c.take-taken.ensures.obeys; same = refl })
