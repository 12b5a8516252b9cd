use Rattle.ipc_threads.proofs.Passed.{pass_changed, pass_legal, pass_named, pass_stands, within_first, within_second}
use Rattle.ipc_threads.proofs.slots.Slots.note_pass.Goals as goal

pub note_pass-changes-requires-clause-from : goal.note_pass-changes-requires-clause-from
note_pass-changes-requires-clause-from c = within_first c.args.self.now.past c.args.pair.sending c.args.pair.receiving c.args.pair.from c.args.pair.to c.kept.ensures.legal c.requires.begins c.requires.ends c.args.self.now.kept (rw c.kept.ensures.kept at c.kept.ensures.stands) c.requires.held.sending c.requires.held.receiving

pub note_pass-changes-requires-clause-to : goal.note_pass-changes-requires-clause-to
note_pass-changes-requires-clause-to c = within_second c.args.self.now.past c.args.pair.sending c.args.pair.receiving c.args.pair.from c.args.pair.to c.kept.ensures.legal c.requires.begins c.requires.ends c.args.self.now.kept (rw c.kept.ensures.kept at c.kept.ensures.stands) c.requires.held.sending c.requires.held.receiving

pub invariant_of-self : goal.invariant_of-self
invariant_of-self c =
    let begins = rw (← c.self.view_is) at c.requires.begins in
    let ends = rw (← c.self.view_is) at c.requires.ends in
    let sending = rw (← c.self.view_is) at c.requires.held.sending in
    let receiving = rw (← c.self.view_is) at c.requires.held.receiving in
    rw (c.add-2.ensures, c.add.ensures, c.requires.began, c.requires.ended, c.note_pass-changes.ensures.kept) (record {
      legal = pass_legal c.self.inside.past c.args.pair.sending c.args.pair.receiving c.args.pair.from c.args.pair.to c.self.invariant.legal begins ends c.self.inside.kept c.self.invariant.stands sending receiving;
      stands = pass_stands c.self.inside.past c.args.pair.sending c.args.pair.receiving c.args.pair.from c.args.pair.to c.self.invariant.legal begins ends c.self.inside.kept c.self.invariant.stands sending receiving;
    })

pub returns-clause-changed : goal.returns-clause-changed
returns-clause-changed c =
    let begins = rw (← c.self.view_is) at c.requires.begins in
    let ends = rw (← c.self.view_is) at c.requires.ends in
    let sending = rw (← c.self.view_is) at c.requires.held.sending in
    let receiving = rw (← c.self.view_is) at c.requires.held.receiving in
    rw (c.note_pass-changes.ensures.kept, c.note_pass-changes.ensures.changes, ← c.self.view_is) (pass_changed c.self.inside.past c.args.pair.sending c.args.pair.receiving c.args.pair.from c.args.pair.to c.self.invariant.legal begins ends c.self.inside.kept c.self.invariant.stands sending receiving)

pub returns-clause-named : goal.returns-clause-named
returns-clause-named c =
    let begins = rw (← c.self.view_is) at c.requires.begins in
    let ends = rw (← c.self.view_is) at c.requires.ends in
    let sending = rw (← c.self.view_is) at c.requires.held.sending in
    let receiving = rw (← c.self.view_is) at c.requires.held.receiving in
    rw (c.requires.began, c.note_pass-changes.ensures.changes, ← c.self.view_is) (pass_named c.self.inside.past c.args.pair.sending c.args.pair.receiving c.args.pair.from c.args.pair.to c.self.invariant.legal begins ends c.self.inside.kept c.self.invariant.stands sending receiving)
