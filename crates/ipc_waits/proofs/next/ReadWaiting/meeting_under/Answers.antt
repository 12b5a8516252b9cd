use Rattle.std.proofs.Common.{All, ◌≡◌, ◌∙◌, sym, ap, subst, map}
use Rattle.ipc_history.specs.Calls.{caller_of}
use Rattle.ipc_history.specs.Words.{first_some}
use Rattle.ipc_waits.specs.Next.{IsOpenAt, meeting_by}
use Rattle.ipc_waits.specs.Queues.{IsOrdered, under}
use Rattle.ipc_waits.proofs.MeetingLemmas.{caller_is, own_meeting, receives, receives_not, senders_open, under_meets}
use Rattle.ipc_waits.proofs.next.ReadWaiting.meeting_under.Goals as goal

pub first_meeting-requires : goal.first_meeting-requires
first_meeting-requires c =
    let P = c.waiting-waiting.result.now.slots.past in
    let n = c.args.call.now.number in
    let call = rw (← c.waiting-waiting.ensures.same) at c.requires in
    let caller = caller_is P c.kept.ensures.legal c.args.call.now call in
    let is : c.under-senders.result.now ≡ under (caller_of P n) c.waiting-waiting.result.now.waits.senders = c.under-senders.ensures.value ∙ (ap (under c.to_word.result) c.senders.ensures ∙ ap (λ t. under t c.waiting-waiting.result.now.waits.senders) (c.to_word.ensures ∙ caller)) in
    rw (c.slots-slots.ensures, ← c.waiting-waiting.ensures.same) (subst (All (IsOpenAt P)) (sym is) (senders_open P c.waiting-waiting.result.now.slots.kept c.kept.ensures.legal (rw c.kept.ensures.kept at c.kept.ensures.stands) c.waiting-waiting.result.now.waits.senders c.waiting-waiting.ensures.waiting.waits.senders n call.opened (receives P c.kept.ensures.legal c.args.call.now call c.in-Receiving.is)))

pub returns-in-Receiving : goal.returns-in-Receiving
returns-in-Receiving c =
    let P = c.waiting-waiting.result.now.slots.past in
    let n = c.args.call.now.number in
    let call = rw (← c.waiting-waiting.ensures.same) at c.requires in
    let caller = caller_is P c.kept.ensures.legal c.args.call.now call in
    let is : c.under-senders.result.now ≡ under (caller_of P n) c.waiting-waiting.result.now.waits.senders = c.under-senders.ensures.value ∙ (ap (under c.to_word.result) c.senders.ensures ∙ ap (λ t. under t c.waiting-waiting.result.now.waits.senders) (c.to_word.ensures ∙ caller)) in
    let met = rw (c.slots-slots.ensures, ← c.waiting-waiting.ensures.same) at c.first_meeting.ensures in
    rw (← c.waiting-waiting.ensures.same) (met ∙ (ap (λ l. first_some (meeting_by P) (map (λ w. w.number) l)) is ∙ under_meets P c.waiting-waiting.result.now.slots.kept c.kept.ensures.legal (rw c.kept.ensures.kept at c.kept.ensures.stands) c.waiting-waiting.result.now.waits.senders c.waiting-waiting.ensures.waiting.waits.senders n call.opened (receives P c.kept.ensures.legal c.args.call.now call c.in-Receiving.is) (subst IsOrdered is c.under-senders.ensures.order)))

pub returns-in_default : goal.returns-in_default
returns-in_default c =
    let P = c.waiting-waiting.result.now.slots.past in
    let call = rw (← c.waiting-waiting.ensures.same) at c.requires in
    let met = rw (c.slots-slots.ensures, ← c.waiting-waiting.ensures.same) at c.own_meeting.ensures in
    rw (← c.waiting-waiting.ensures.same) (met ∙ sym (own_meeting P c.args.call.now.number (receives_not P c.kept.ensures.legal c.args.call.now call c.in_default.not-Receiving)))
