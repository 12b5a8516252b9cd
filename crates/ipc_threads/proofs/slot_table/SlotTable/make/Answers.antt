use Rattle.std.proofs.Common.{sym, ◌∙◌}
use Rattle.ipc_threads.proofs.SlotTables.{free_is, made_is, made_none}
use Rattle.ipc_threads.proofs.slot_table.SlotTable.make.Goals as goal

pub set-requires-clause-free : goal.set-requires-clause-free
set-requires-clause-free c = free_is c.self.inside.threads c.self.inside.calls c.args.self.now (c.self.invariant.0 ∙ sym c.self.invariant.1) c.self.view_is c.args.place c.requires.free

pub set-requires-in-None-clause-free : goal.set-requires-in-None-clause-free
set-requires-in-None-clause-free c = free_is c.self.inside.threads c.self.inside.calls c.args.self.now (c.self.invariant.0 ∙ sym c.self.invariant.1) c.self.view_is c.args.place c.requires.free

pub returns-in-Some : goal.returns-in-Some
returns-in-Some c = rw (c.set.ensures, c.in-Some.is) (made_is c.self.inside.threads c.self.inside.calls c.args.self.now c.args.place c.args.version c.in-Some.live c.self.view_is (rw c.in-Some.is at c.requires.live).0)

pub returns-in-None : goal.returns-in-None
returns-in-None c = rw (c.set-in-None.ensures, c.in-None.is) (made_none c.self.inside.threads c.self.inside.calls c.args.self.now c.args.place c.args.version c.self.view_is)
