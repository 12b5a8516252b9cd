use Rattle.std.proofs.Common.{◌∙◌, sym, ap, option_copied}
use Rattle.ipc_waits.specs.Next.{meeting_by}
use Rattle.ipc_waits.proofs.MeetingLemmas.{call_there, none_there}
use Rattle.ipc_waits.proofs.next.meeting_by.Goals as goal

pub returns-in_err-call : goal.returns-in_err-call
returns-in_err-call c = absurd (none_there c.args.read.now.past c.args.read.now.kept (rw c.slots-slots.ensures at c.kept.ensures.legal) (rw (c.kept.ensures.kept, c.slots-slots.ensures) at c.kept.ensures.stands) c.args.sender.now c.requires (sym (rw c.slots-slots.ensures at c.held.ensures) ∙ ap option_copied c.in_err-call.was))

pub own_meeting-requires : goal.own_meeting-requires
own_meeting-requires c = (call_there c.args.read.now.past c.args.read.now.kept (rw c.slots-slots.ensures at c.kept.ensures.legal) (rw (c.kept.ensures.kept, c.slots-slots.ensures) at c.kept.ensures.stands) c.args.sender.now c.requires c.in_ok-call.call.now (sym (rw c.slots-slots.ensures at c.held.ensures) ∙ ap option_copied c.in_ok-call.was)).1

pub returns : goal.returns
returns c =
    let number = (call_there c.args.read.now.past c.args.read.now.kept (rw c.slots-slots.ensures at c.kept.ensures.legal) (rw (c.kept.ensures.kept, c.slots-slots.ensures) at c.kept.ensures.stands) c.args.sender.now c.requires c.in_ok-call.call.now (sym (rw c.slots-slots.ensures at c.held.ensures) ∙ ap option_copied c.in_ok-call.was)).0 in
    c.own_meeting.ensures ∙ ap (meeting_by c.args.read.now.past) number
