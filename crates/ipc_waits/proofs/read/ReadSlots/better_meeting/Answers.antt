use Rattle.std.proofs.Common.{sym, ap, ◌∙◌, option_copied}
use Rattle.ipc_threads.proofs.Holders.{slot_standing}
use Rattle.ipc_waits.proofs.read.ReadSlots.better_meeting.Goals as goal

pub meeting_of-requires : goal.meeting_of-requires
meeting_of-requires c = slot_standing c.args.self.now.past c.args.self.now.kept (rw (c.kept.ensures.kept, c.slots-slots.ensures) at c.kept.ensures.stands) c.args.place c.in-Some.call.now (sym (rw c.slots-slots.ensures at c.held.ensures) ∙ ap option_copied c.in-Some.is)
