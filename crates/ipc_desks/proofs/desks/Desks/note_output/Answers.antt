use Rattle.std.proofs.Common.{sym}
use Rattle.ipc_history.specs.declared.entry.Entry.TheVariants.{Written}
use Rattle.ipc_laws.proofs.Settling.{legal_push}
use Rattle.ipc_desks.proofs.QuietEntries.{quiet_unnoted}
use Rattle.ipc_desks.proofs.desks.Desks.note_output.Goals as goal

pub invariant_of-self : goal.invariant_of-self
invariant_of-self c =
    let follows = rw (← c.self.view_is) at c.requires.follows in
    rw (c.add.ensures, c.requires.entry) (record { legal = legal_push c.self.inside.past (Written c.args.output.now) c.self.invariant.legal follows; keeps = (quiet_unnoted c.self.inside.past c.args.output.now c.self.invariant.legal follows c.self.inside.taken c.self.inside.kept c.self.invariant.keeps c.in-Began.is).keeps })

pub returns-in-Began-clause-finished : goal.returns-in-Began-clause-finished
returns-in-Began-clause-finished c t =
    let follows = rw (← c.self.view_is) at c.requires.follows in
    rw (← c.self.view_is) (sym ((quiet_unnoted c.self.inside.past c.args.output.now c.self.invariant.legal follows c.self.inside.taken c.self.inside.kept c.self.invariant.keeps c.in-Began.is).finishes t))
