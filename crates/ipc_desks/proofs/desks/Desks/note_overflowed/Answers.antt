use Rattle.std.proofs.Common.{◌+◌, ◌*◌, arith}
use Rattle.ipc_history.specs.declared.entry.Entry.TheVariants.{Written}
use Rattle.ipc_history.specs.declared.entry.Output.TheVariants.{Overflowed}
use Rattle.ipc_laws.proofs.Settling.{legal_push}
use Rattle.ipc_desks.proofs.OutputDesks.{both_finish, both_keep, overflow_apart, overflow_closes, overflow_open, small_offset}
use Rattle.ipc_desks.proofs.desks.Desks.note_overflowed.Goals as goal

pub overflow_error-error-requires : goal.overflow_error-error-requires
overflow_error-error-requires c = omega (arith, small_offset c.args.self.now.past c.args.sending c.args.receiving c.args.offset c.kept.ensures.legal c.requires.follows)

pub fail_both-finished-requires-clause-sends : goal.fail_both-finished-requires-clause-sends
fail_both-finished-requires-clause-sends c = rw c.requires.past (overflow_open c.args.self.now.past c.args.sending c.args.receiving c.args.offset c.requires.follows).0

pub fail_both-finished-requires-clause-receives : goal.fail_both-finished-requires-clause-receives
fail_both-finished-requires-clause-receives c = rw c.requires.past (overflow_open c.args.self.now.past c.args.sending c.args.receiving c.args.offset c.requires.follows).1

pub fail_both-finished-requires-clause-small : goal.fail_both-finished-requires-clause-small
fail_both-finished-requires-clause-small c = rw c.overflow_error-error.ensures (omega (arith, small_offset c.args.self.now.past c.args.sending c.args.receiving c.args.offset c.kept.ensures.legal c.requires.follows))

pub invariant_of-self : goal.invariant_of-self
invariant_of-self c =
    let follows = rw (← c.self.view_is) at c.requires.follows in
    let past = rw (← c.self.view_is) at c.requires.past in
    let opened = overflow_open c.self.inside.past c.args.sending c.args.receiving c.args.offset follows in
    rw (c.add.ensures, c.requires.entry) (record { legal = legal_push c.self.inside.past (Written (Overflowed c.args.sending c.args.receiving c.args.offset)) c.self.invariant.legal follows; keeps = both_keep c.self.inside.past (Overflowed c.args.sending c.args.receiving c.args.offset) c.args.sending c.args.receiving c.overflow_error-error.result c.self.invariant.legal follows (rw c.overflow_error-error.ensures (overflow_closes c.args.sending c.args.receiving c.args.offset)) opened.0 opened.1 (overflow_apart c.self.inside.past c.args.sending c.args.receiving c.args.offset c.self.invariant.legal follows) c.self.inside.taken c.self.inside.kept c.fail_both-finished.new.self c.self.invariant.keeps (rw past at c.fail_both-finished.ensures.desks) })

pub returns-clause-finished : goal.returns-clause-finished
returns-clause-finished c t =
    let opened = overflow_open c.args.self.now.past c.args.sending c.args.receiving c.args.offset c.requires.follows in
    rw (c.fail_both-finished.ensures.finished, c.requires.past) (both_finish c.args.self.now.past (Overflowed c.args.sending c.args.receiving c.args.offset) c.args.sending c.args.receiving (0x8 + 16 * c.args.offset) c.kept.ensures.legal c.requires.follows (overflow_closes c.args.sending c.args.receiving c.args.offset) opened.0 opened.1 (overflow_apart c.args.self.now.past c.args.sending c.args.receiving c.args.offset c.kept.ensures.legal c.requires.follows) t)
