use Rattle.std.proofs.Common.{sym}
use Rattle.ipc_history.specs.declared.entry.Entry.TheVariants.{Given}
use Rattle.ipc_laws.proofs.Settling.{legal_push}
use Rattle.ipc_desks.proofs.QuietEntries.{given_unnoted}
use Rattle.ipc_desks.proofs.desks.Desks.note_input.Goals as goal

pub invariant_of-self : goal.invariant_of-self
invariant_of-self c =
    let follows = rw (← c.self.view_is) at c.requires.follows in
    rw (c.add.ensures, c.requires.entry) (record { legal = legal_push c.self.inside.past (Given c.args.input.now) c.self.invariant.legal follows; keeps = (given_unnoted c.self.inside.past c.args.input.now c.self.invariant.legal follows c.requires.plain c.in_default.not-Broke c.self.inside.taken c.self.inside.kept c.self.invariant.keeps).keeps })

pub returns-clause-finished : goal.returns-clause-finished
returns-clause-finished c t =
    let follows = rw (← c.self.view_is) at c.requires.follows in
    rw (← c.self.view_is) (sym ((given_unnoted c.self.inside.past c.args.input.now c.self.invariant.legal follows c.requires.plain c.in_default.not-Broke c.self.inside.taken c.self.inside.kept c.self.invariant.keeps).finishes t))
