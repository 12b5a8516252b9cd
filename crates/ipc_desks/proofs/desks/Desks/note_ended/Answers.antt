use Rattle.std.proofs.Common.{sym, ap, ◌∙◌, subst, ◌==◌}
use Rattle.ipc_words.specs.ThreadId.{nilthread, number_of}
use Rattle.ipc_history.specs.Calls.{caller_of}
use Rattle.ipc_history.specs.Legal.{Follows}
use Rattle.ipc_history.specs.Outcomes.{nothing, received, timed}
use Rattle.ipc_history.specs.declared.entry.Entry.TheVariants.{Written}
use Rattle.ipc_history.specs.declared.entry.Output.TheVariants.{Ended}
use Rattle.ipc_laws.proofs.Settling.{legal_push}
use Rattle.ipc_threads.specs.Standings.{standing_of}
use Rattle.ipc_threads.proofs.Holders.{standing_number}
use Rattle.ipc_desks.proofs.EndedNotes.{is_done, tells_one, tells_two, waits_on}
use Rattle.ipc_desks.proofs.OutputDesks.{ended_open, not_not}
use Rattle.ipc_desks.proofs.desks.Desks.note_ended.Goals as goal

pub place_of-from-requires : goal.place_of-from-requires
place_of-from-requires c = rw c.requires.past (ended_open c.args.self.now.past c.args.sending c.args.receiving c.requires.follows).0

pub place_of-to-requires : goal.place_of-to-requires
place_of-to-requires c = rw c.requires.past (ended_open c.args.self.now.past c.args.sending c.args.receiving c.requires.follows).1

pub standing-sender-requires-clause-open : goal.standing-sender-requires-clause-open
standing-sender-requires-clause-open c = rw c.requires.past (ended_open c.args.self.now.past c.args.sending c.args.receiving c.requires.follows).0

pub standing-receiver-requires-clause-open : goal.standing-receiver-requires-clause-open
standing-receiver-requires-clause-open c = rw c.requires.past (ended_open c.args.self.now.past c.args.sending c.args.receiving c.requires.follows).1

pub hand_over-outcome-requires-clause-follows : goal.hand_over-outcome-requires-clause-follows
hand_over-outcome-requires-clause-follows c = subst (λ x. Follows c.args.slots.now.past (Written (Ended x c.args.receiving))) (sym (ap (λ s. s.number) c.standing-sender.ensures ∙ standing_number c.args.slots.now.past c.args.sending)) (rw (← c.requires.past) at c.requires.follows)

pub hand_over-outcome-requires-clause-call : goal.hand_over-outcome-requires-clause-call
hand_over-outcome-requires-clause-call c = c.standing-sender.ensures ∙ ap (standing_of c.args.slots.now.past) (sym (ap (λ s. s.number) c.standing-sender.ensures ∙ standing_number c.args.slots.now.past c.args.sending))

pub hand_over-outcome-requires-clause-sender : goal.hand_over-outcome-requires-clause-sender
hand_over-outcome-requires-clause-sender c = c.place_of-from.ensures.place ∙ ap (λ x. number_of (caller_of c.args.slots.now.past x)) (sym (ap (λ s. s.number) c.standing-sender.ensures ∙ standing_number c.args.slots.now.past c.args.sending))

pub invariant_of-self : goal.invariant_of-self
invariant_of-self c =
    let follows = rw (← c.self.view_is) at c.requires.follows in
    let past = rw (← c.self.view_is) at c.requires.past in
    let moment = rw past at c.now-moment.ensures in
    let sender = rw past at c.standing-sender.ensures in
    let from = rw past at c.place_of-from.ensures.place in
    let to = rw past at c.place_of-to.ensures.place in
    let outcome = rw past at c.hand_over-outcome.ensures.outcome in
    rw (c.add.ensures, c.requires.entry) (record { legal = legal_push c.self.inside.past (Written (Ended c.args.sending c.args.receiving)) c.self.invariant.legal follows; keeps = waits_on c.self.inside.past c.args.sending c.args.receiving c.self.invariant.legal follows c.self.inside.taken c.self.inside.kept c.hand_over-outcome.new.self c.finish.new.self c.self.invariant.keeps c.standing-sender.result sender c.place_of-from.result c.place_of-to.result from to c.hand_over-outcome.result (outcome ∙ ap (λ t. timed t (received c.self.inside.past c.standing-sender.result.number c.args.receiving)) moment) c.hand_over-outcome.ensures.desks c.finish.ensures (sym c.ne.ensures ∙ c.if-ne.true) })

pub returns-then-ne-clause-finished : goal.returns-then-ne-clause-finished
returns-then-ne-clause-finished c t =
    let sender = rw c.requires.past at c.standing-sender.ensures in
    let receiver = rw c.requires.past at c.standing-receiver.ensures in
    tells_one c.args.self.now.past c.args.sending c.args.receiving c.kept.ensures.legal c.requires.follows c.standing-sender.result c.standing-receiver.result sender receiver t (sym c.ne.ensures ∙ c.if-ne.true)

pub invariant_of-self-2 : goal.invariant_of-self-2
invariant_of-self-2 c =
    let follows = rw (← c.self.view_is) at c.requires.follows in
    let past = rw (← c.self.view_is) at c.requires.past in
    let moment = rw past at c.now-moment.ensures in
    let sender = rw past at c.standing-sender.ensures in
    let from = rw past at c.place_of-from.ensures.place in
    let to = rw past at c.place_of-to.ensures.place in
    let outcome = rw past at c.hand_over-outcome.ensures.outcome in
    rw (c.add-2.ensures, c.requires.entry) (record { legal = legal_push c.self.inside.past (Written (Ended c.args.sending c.args.receiving)) c.self.invariant.legal follows; keeps = is_done c.self.inside.past c.args.sending c.args.receiving c.self.invariant.legal follows c.self.inside.taken c.self.inside.kept c.hand_over-outcome.new.self c.finish.new.self c.self.invariant.keeps c.standing-sender.result sender c.place_of-from.result c.place_of-to.result from to c.hand_over-outcome.result (outcome ∙ ap (λ t. timed t (received c.self.inside.past c.standing-sender.result.number c.args.receiving)) moment) c.hand_over-outcome.ensures.desks c.finish.ensures c.finish-2.new.self c.nothing.result (c.nothing.ensures ∙ ap (λ t. timed t (nothing c.args.sending)) moment) c.finish-2.ensures (not_not (c.standing-sender.result.from == nilthread) (sym c.ne.ensures ∙ c.if-ne.false)) })

pub returns-clause-finished : goal.returns-clause-finished
returns-clause-finished c t =
    let sender = rw c.requires.past at c.standing-sender.ensures in
    let receiver = rw c.requires.past at c.standing-receiver.ensures in
    tells_two c.args.self.now.past c.args.sending c.args.receiving c.kept.ensures.legal c.requires.follows c.standing-sender.result c.standing-receiver.result sender receiver t (not_not (c.standing-sender.result.from == nilthread) (sym c.ne.ensures ∙ c.if-ne.false))
