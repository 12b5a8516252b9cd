use Rattle.ipc_compact.proofs.BaseLemmas.{dropped_is, made_more}
use Rattle.ipc_compact.proofs.partner_base.dropped_by.Goals as goal

pub overflow_sub-result : goal.overflow_sub-result
overflow_sub-result c =
    rw (c.made.ensures, c.made_in.ensures)
    (made_more c.args.desks.now.past c.args.desks.now.taken c.kept.ensures.legal c.in-Some.thread (rw c.in-Some.is at c.requires.live) c.args.kept.now c.requires.kept)

pub returns-in-Some : goal.returns-in-Some
returns-in-Some c =
    rw (c.made.ensures, c.made_in.ensures, c.in-Some.is)
    (dropped_is c.args.desks.now.past c.args.desks.now.taken c.kept.ensures.legal c.in-Some.thread (rw c.in-Some.is at c.requires.live) c.args.kept.now c.requires.kept)
