use Rattle.std.proofs.Common.{refl, sym, ◌∙◌}
use Rattle.std.proofs.lemmas.List.Elements.{All-get_or}
use Rattle.ipc_waits.specs.Next.{IsOpenAt}
use Rattle.ipc_waits.proofs.MeetingLemmas.{meets_here, meets_later, meets_nowhere}
use Rattle.ipc_waits.proofs.next.first_meeting.Goals as goal

pub meeting_by-met-requires : goal.meeting_by-met-requires
meeting_by-met-requires c = All-get_or (IsOpenAt c.args.read.now.past) c.args.senders.now c.loop-sender.sender-index _ c.loop-sender-test.true c.requires

pub loop-sender-init : goal.loop-sender-init
loop-sender-init c = refl

pub loop-sender-preserved : goal.loop-sender-preserved
loop-sender-preserved c = meets_later c.args.read.now.past c.args.senders.now c.loop-sender.sender-index _ _ c.meeting_by-met.result c.loop-sender-test.true refl c.loop-sender.invariant c.meeting_by-met.ensures (sym c.is_some.ensures ∙ c.if-is_some.false)

pub returns-then-is_some : goal.returns-then-is_some
returns-then-is_some c = meets_here c.args.read.now.past c.args.senders.now c.loop-sender.sender-index _ _ c.meeting_by-met.result c.loop-sender-test.true refl c.loop-sender.invariant c.meeting_by-met.ensures (sym c.is_some.ensures ∙ c.if-is_some.true)

pub returns : goal.returns
returns c = sym (meets_nowhere c.args.read.now.past c.args.senders.now c.loop-sender.sender-index c.loop-sender-test.false c.loop-sender.invariant)
