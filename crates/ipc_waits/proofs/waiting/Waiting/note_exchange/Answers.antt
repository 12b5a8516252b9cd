use Rattle.std.proofs.Common.{refl, sym, ap, subst, ◌∙◌, None}
use Rattle.ipc_words.specs.ThreadId.{number_of}
use Rattle.ipc_threads.proofs.Exchanged.{within_second}
use Rattle.ipc_waits.specs.Finding.{CoversAt}
use Rattle.ipc_waits.specs.Keys.{AreWaits, HaveAt, SameElsewhere}
use Rattle.ipc_waits.proofs.Exchanged.{comes_there, exchange_covers, have_none, have_there, waits_again}
use Rattle.ipc_waits.proofs.waiting.Waiting.note_exchange.Goals as goal

pub change-requires-clause-within : goal.change-requires-clause-within
change-requires-clause-within c = rw (c.number-there.ensures, c.to.ensures) (within_second c.args.self.now.slots.past c.args.number c.args.caller c.args.receiving c.args.call.now c.kept.ensures.legal c.requires.follows c.requires.reaches c.args.self.now.slots.kept (rw c.kept.ensures.kept at c.kept.ensures.stands))

pub change-requires-clause-before : goal.change-requires-clause-before
change-requires-clause-before c = have_there c.args.self.now.slots.kept.table c.args.self.now.waits c.requires.waiting.waits c.number-there.result _ c.held.ensures

pub follow-requires : goal.follow-requires
follow-requires c =
    let there = c.number-there.ensures ∙ ap number_of c.to.ensures in
    let over = subst (λ k. HaveAt c.change.new.self k None) there c.change.ensures.after in
    let beside = subst (λ k. SameElsewhere c.args.self.now.waits c.change.new.self k) there c.change.ensures.elsewhere in
    (rw c.number-place.ensures c.note_exchange.ensures.changed.within, rw c.number-place.ensures (have_none c.args.self.now.slots.kept.table c.note_exchange.new.self.kept.table (number_of c.args.caller) (number_of c.args.call.now.to) c.note_exchange.ensures.changed c.args.self.now.waits c.change.new.self c.requires.waiting.waits over beside))

pub returns-clause-past : goal.returns-clause-past
returns-clause-past c = ap (λ s. s.past) c.follow.ensures.slots ∙ c.note_exchange.ensures.past

pub returns-clause-waiting : goal.returns-clause-waiting
returns-clause-waiting c =
    let there = c.number-there.ensures ∙ ap number_of c.to.ensures in
    let over = subst (λ k. HaveAt c.change.new.self k None) there c.change.ensures.after in
    let beside = subst (λ k. SameElsewhere c.args.self.now.waits c.change.new.self k) there c.change.ensures.elsewhere in
    let followed = rw c.number-place.ensures at c.follow.ensures.followed in
    let past = ap (λ s. s.past) c.follow.ensures.slots ∙ c.note_exchange.ensures.past in
    record {
      waits = subst (λ s. AreWaits s.kept.table c.follow.new.self.waits) (sym c.follow.ensures.slots) (waits_again c.args.self.now.slots.kept.table c.note_exchange.new.self.kept.table (number_of c.args.caller) (number_of c.args.call.now.to) c.note_exchange.ensures.changed c.args.self.now.waits c.change.new.self c.requires.waiting.waits over beside c.follow.new.self.waits _ refl followed.here followed.elsewhere);
      covers = subst (λ H. CoversAt H c.follow.new.self.candidates) (sym past) (exchange_covers c.args.self.now.slots.past c.args.number c.args.caller c.args.receiving c.args.call.now c.kept.ensures.legal c.requires.follows c.requires.reaches c.follow.new.self.candidates (λ still. comes_there _ _ _ _ followed.candidates (c.note_exchange.ensures.held (rw c.note_exchange.ensures.past still))));
    }
