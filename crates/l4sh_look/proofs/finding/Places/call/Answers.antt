use Rattle.std.proofs.Common.{refl}
use Rattle.l4sh_look.proofs.Opening.{call_there, none_there}
use Rattle.l4sh_look.proofs.finding.Places.call.Goals as goal

pub returns-in-Some : goal.returns-in-Some
returns-in-Some c unfinished =
    call_there c.args.slots.now.past c.args.slots.now.kept (rw c.kept.ensures.kept at c.kept.ensures.stands) c.args.number c.in-Some.place
    c.in-Some.ensures.holds c.call_at.result c.call_at.ensures

pub returns-in-None : goal.returns-in-None
returns-in-None c unfinished =
    absurd (none_there c.args.slots.now.past c.args.slots.now.kept c.kept.ensures.legal (rw c.kept.ensures.kept at c.kept.ensures.stands) c.args.number
    (c.in-None.ensures.none refl) unfinished)
