use Rattle.std.proofs.Common.{◌++◌, ◌∷◌, [], sym, subst}
use Rattle.ipc_history.specs.Legal.{Follows}
use Rattle.ipc_history.specs.declared.entry.Entry.TheVariants.{Written}
use Rattle.ipc_compact.specs.Partners.{Knows}
use Rattle.ipc_compact.proofs.PartnerLemmas.{began_apart, began_knows, other_output, overflow_apart, overflow_knows}
use Rattle.ipc_compact.proofs.kept.KeptPartners.note_output.Goals as goal

pub join-requires-clause-sends : goal.join-requires-clause-sends
join-requires-clause-sends c = (began_apart c.args.slots.now.past c.kept.ensures.legal c.args.self.now c.requires.knows c.in-Began.sending c.in-Began.receiving (subst (λ o. Follows c.args.slots.now.past (Written o)) c.in-Began.is c.requires.follows)).0

pub join-requires-clause-receives : goal.join-requires-clause-receives
join-requires-clause-receives c = (began_apart c.args.slots.now.past c.kept.ensures.legal c.args.self.now c.requires.knows c.in-Began.sending c.in-Began.receiving (subst (λ o. Follows c.args.slots.now.past (Written o)) c.in-Began.is c.requires.follows)).1

pub join-requires-clause-apart : goal.join-requires-clause-apart
join-requires-clause-apart c = (began_apart c.args.slots.now.past c.kept.ensures.legal c.args.self.now c.requires.knows c.in-Began.sending c.in-Began.receiving (subst (λ o. Follows c.args.slots.now.past (Written o)) c.in-Began.is c.requires.follows)).2

pub join-requires-in-Overflowed-clause-sends : goal.join-requires-in-Overflowed-clause-sends
join-requires-in-Overflowed-clause-sends c = (overflow_apart c.args.slots.now.past c.kept.ensures.legal c.args.self.now c.requires.knows c.in-Overflowed.sending c.in-Overflowed.receiving _ (subst (λ o. Follows c.args.slots.now.past (Written o)) c.in-Overflowed.is c.requires.follows)).0

pub join-requires-in-Overflowed-clause-receives : goal.join-requires-in-Overflowed-clause-receives
join-requires-in-Overflowed-clause-receives c = (overflow_apart c.args.slots.now.past c.kept.ensures.legal c.args.self.now c.requires.knows c.in-Overflowed.sending c.in-Overflowed.receiving _ (subst (λ o. Follows c.args.slots.now.past (Written o)) c.in-Overflowed.is c.requires.follows)).1

pub join-requires-in-Overflowed-clause-apart : goal.join-requires-in-Overflowed-clause-apart
join-requires-in-Overflowed-clause-apart c = (overflow_apart c.args.slots.now.past c.kept.ensures.legal c.args.self.now c.requires.knows c.in-Overflowed.sending c.in-Overflowed.receiving _ (subst (λ o. Follows c.args.slots.now.past (Written o)) c.in-Overflowed.is c.requires.follows)).2

pub returns-in-Began : goal.returns-in-Began
returns-in-Began c = subst (λ o. Knows (c.args.slots.now.past ++ Written o ∷ []) c.join.new.self) (sym c.in-Began.is) (began_knows c.args.slots.now.past c.kept.ensures.legal c.args.self.now c.requires.knows c.in-Began.sending c.in-Began.receiving c.join.new.self (subst (λ o. Follows c.args.slots.now.past (Written o)) c.in-Began.is c.requires.follows) c.join.ensures)

pub returns-in-Overflowed : goal.returns-in-Overflowed
returns-in-Overflowed c = subst (λ o. Knows (c.args.slots.now.past ++ Written o ∷ []) c.join-in-Overflowed.new.self) (sym c.in-Overflowed.is) (overflow_knows c.args.slots.now.past c.kept.ensures.legal c.args.self.now c.requires.knows c.in-Overflowed.sending c.in-Overflowed.receiving c.in-Overflowed.field-2 c.join-in-Overflowed.new.self (subst (λ o. Follows c.args.slots.now.past (Written o)) c.in-Overflowed.is c.requires.follows) c.join-in-Overflowed.ensures)

pub returns-in_default : goal.returns-in_default
returns-in_default c = other_output c.args.slots.now.past c.kept.ensures.legal c.args.self.now c.requires.knows c.args.output.now c.in_default.not-Began c.in_default.not-Overflowed
