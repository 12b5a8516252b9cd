use Rattle.std.proofs.Common.{◌∙◌, sym, ◌+◌}
use Rattle.l4sh_state.proofs.Walking.{follow_none, walk_back, walk_on, walk_round, walk_start}
use Rattle.l4sh_state.proofs.courses.course_from.Goals as goal

pub walk-init : goal.walk-init
walk-init c = walk_start c.args.waits.now c.args.start

pub returns-in_default : goal.returns-in_default
returns-in_default c =
    (c.walk.steps + 1, follow_none c.args.waits.now c.args.start c.walk.current c.walk.steps c.walk.invariant.here (sym c.awaited.ensures ∙ c.in_default.is))

pub returns-then-seen-current : goal.returns-then-seen-current
returns-then-seen-current c =
    walk_round c.args.waits.now c.args.start c.walk.seen c.walk.current c.walk.steps c.walk.invariant c.if-seen-current.true

pub returns-then-next-start : goal.returns-then-next-start
returns-then-next-start c =
    walk_back c.args.waits.now c.args.start c.walk.seen c.walk.current c.walk.steps c.in-Some.next c.walk.invariant (sym c.awaited.ensures ∙ c.in-Some.is)
    c.if-next-start.true

pub walk-preserved : goal.walk-preserved
walk-preserved c =
    walk_on c.args.waits.now c.args.start c.walk.seen c.walk.current c.walk.steps c.in-Some.next c.walk.invariant c.if-current-ge-PLACES.false
    c.if-seen-current.false (sym c.awaited.ensures ∙ c.in-Some.is) c.if-next-start.false
