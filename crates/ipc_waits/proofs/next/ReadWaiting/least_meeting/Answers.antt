use Rattle.std.proofs.Common.{◌∙◌, sym, ap, subst, length, option_map}
use Rattle.ipc_waits.specs.Next.{IsLeastMeeting, slots_at}
use Rattle.ipc_waits.proofs.MeetingLemmas.{meeting_is}
use Rattle.ipc_waits.proofs.next.ReadWaiting.least_meeting.Goals as goal

pub returns-in_err-output : goal.returns-in_err-output
returns-in_err-output c =
    let least = subst (λ l. IsLeastMeeting c.waiting-waiting.result.now.slots.past (slots_at c.waiting-waiting.result.now.slots.kept.table l) (length l) c.best_meeting.result) c.places.ensures (rw (← c.waiting-waiting.ensures.same) at c.best_meeting.ensures) in
    let is = meeting_is c.waiting-waiting.result.now.slots.past c.waiting-waiting.result.now.slots.kept c.waiting-waiting.result.now.candidates c.best_meeting.result c.kept.ensures.legal (rw c.kept.ensures.kept at c.kept.ensures.stands) c.waiting-waiting.ensures.waiting.covers least in
    rw (← c.waiting-waiting.ensures.same) (c.from_residual.ensures ∙ sym (is ∙ ap (option_map (λ b. b.1)) c.in_err-output.was))

pub returns : goal.returns
returns c =
    let least = subst (λ l. IsLeastMeeting c.waiting-waiting.result.now.slots.past (slots_at c.waiting-waiting.result.now.slots.kept.table l) (length l) c.best_meeting.result) c.places.ensures (rw (← c.waiting-waiting.ensures.same) at c.best_meeting.ensures) in
    let is = meeting_is c.waiting-waiting.result.now.slots.past c.waiting-waiting.result.now.slots.kept c.waiting-waiting.result.now.candidates c.best_meeting.result c.kept.ensures.legal (rw c.kept.ensures.kept at c.kept.ensures.stands) c.waiting-waiting.ensures.waiting.covers least in
    rw (← c.waiting-waiting.ensures.same) (sym (is ∙ ap (option_map (λ b. b.1)) c.in_ok-output.was))
