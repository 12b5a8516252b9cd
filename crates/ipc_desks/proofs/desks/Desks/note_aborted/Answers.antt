use Rattle.std.proofs.Common.{◌+◌, ◌*◌, arith}
use Rattle.ipc_history.specs.declared.entry.Entry.TheVariants.{Written}
use Rattle.ipc_history.specs.declared.entry.Output.TheVariants.{Aborted}
use Rattle.ipc_laws.proofs.Settling.{legal_push}
use Rattle.ipc_desks.proofs.OutputDesks.{both_finish, both_keep, abort_apart, abort_closes, abort_open, small_count}
use Rattle.ipc_desks.proofs.desks.Desks.note_aborted.Goals as goal

pub abort_error-error-requires : goal.abort_error-error-requires
abort_error-error-requires c = omega (arith, small_count c.args.self.now.past c.args.sending c.args.receiving c.args.count c.kept.ensures.legal c.requires.follows)

pub fail_both-finished-requires-clause-sends : goal.fail_both-finished-requires-clause-sends
fail_both-finished-requires-clause-sends c = rw c.requires.past (abort_open c.args.self.now.past c.args.sending c.args.receiving c.args.count c.requires.follows).0

pub fail_both-finished-requires-clause-receives : goal.fail_both-finished-requires-clause-receives
fail_both-finished-requires-clause-receives c = rw c.requires.past (abort_open c.args.self.now.past c.args.sending c.args.receiving c.args.count c.requires.follows).1

pub fail_both-finished-requires-clause-small : goal.fail_both-finished-requires-clause-small
fail_both-finished-requires-clause-small c = rw c.abort_error-error.ensures (omega (arith, small_count c.args.self.now.past c.args.sending c.args.receiving c.args.count c.kept.ensures.legal c.requires.follows))

pub invariant_of-self : goal.invariant_of-self
invariant_of-self c =
    let follows = rw (← c.self.view_is) at c.requires.follows in
    let past = rw (← c.self.view_is) at c.requires.past in
    let opened = abort_open c.self.inside.past c.args.sending c.args.receiving c.args.count follows in
    rw (c.add.ensures, c.requires.entry) (record { legal = legal_push c.self.inside.past (Written (Aborted c.args.sending c.args.receiving c.args.count)) c.self.invariant.legal follows; keeps = both_keep c.self.inside.past (Aborted c.args.sending c.args.receiving c.args.count) c.args.sending c.args.receiving c.abort_error-error.result c.self.invariant.legal follows (rw c.abort_error-error.ensures (abort_closes c.args.sending c.args.receiving c.args.count)) opened.0 opened.1 (abort_apart c.self.inside.past c.args.sending c.args.receiving c.args.count c.self.invariant.legal follows) c.self.inside.taken c.self.inside.kept c.fail_both-finished.new.self c.self.invariant.keeps (rw past at c.fail_both-finished.ensures.desks) })

pub returns-clause-finished : goal.returns-clause-finished
returns-clause-finished c t =
    let opened = abort_open c.args.self.now.past c.args.sending c.args.receiving c.args.count c.requires.follows in
    rw (c.fail_both-finished.ensures.finished, c.requires.past) (both_finish c.args.self.now.past (Aborted c.args.sending c.args.receiving c.args.count) c.args.sending c.args.receiving (0xe + 16 * c.args.count) c.kept.ensures.legal c.requires.follows (abort_closes c.args.sending c.args.receiving c.args.count) opened.0 opened.1 (abort_apart c.args.self.now.past c.args.sending c.args.receiving c.args.count c.kept.ensures.legal c.requires.follows) t)
