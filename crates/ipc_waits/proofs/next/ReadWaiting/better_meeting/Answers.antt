use Rattle.std.proofs.Common.{◌∙◌, sym, ap, option_copied}
use Rattle.ipc_threads.proofs.Holders.{slot_standing}
use Rattle.ipc_waits.proofs.next.ReadWaiting.better_meeting.Goals as goal

pub meeting_under-requires : goal.meeting_under-requires
meeting_under-requires c = slot_standing c.args.self.now.slots.past c.args.self.now.slots.kept (rw (c.kept.ensures.kept, c.waiting-waiting.ensures.same) at c.kept.ensures.stands) c.args.place c.in-Some.call.now (sym (rw c.waiting-waiting.ensures.same at c.held.ensures) ∙ ap option_copied c.in-Some.is)
