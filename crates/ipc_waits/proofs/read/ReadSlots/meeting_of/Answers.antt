use Rattle.std.proofs.Common.{sym, ap, ◌∙◌, Some, option_copied}
use Rattle.ipc_waits.proofs.Meets.{match_open, meeting_none, meeting_told}
use Rattle.ipc_threads.proofs.Lookups.{looked_up}
use Rattle.ipc_history.specs.Matching.{match_of}
use Rattle.ipc_waits.proofs.read.ReadSlots.meeting_of.Goals as goal

pub meeting-requires-clause-receiving : goal.meeting-requires-clause-receiving
meeting-requires-clause-receiving c = let met = rw c.slots.ensures at c.met_by.ensures in (looked_up c.args.self.now.past (match_of c.args.self.now.past c.args.call.now.number) (match_open c.args.self.now.past c.args.call.now.number) c.in-Some.receiving.now (sym (ap option_copied c.in-Some.is) ∙ met)).1

pub returns-in-Some : goal.returns-in-Some
returns-in-Some c = let met = rw c.slots.ensures at c.met_by.ensures in ap (λ o. Some o) c.meeting.ensures ∙ meeting_told c.args.self.now.past c.args.call.now.number c.in-Some.receiving.now (sym (ap option_copied c.in-Some.is) ∙ met)

pub returns-in-None : goal.returns-in-None
returns-in-None c = let met = rw c.slots.ensures at c.met_by.ensures in meeting_none c.args.self.now.past c.args.call.now.number (sym (ap option_copied c.in-None.is) ∙ met)

pub met_by-requires : goal.met_by-requires
met_by-requires c = rw c.slots.ensures c.requires
