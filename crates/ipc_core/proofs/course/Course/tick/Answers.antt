use Rattle.std.proofs.lemmas.Bool.{false≢true}
use Rattle.std.proofs.Common.{sym, ◌∙◌}
use Rattle.ipc_core.proofs.CourseLemmas.{more_books, output_follows, tick_brings, tick_continues, tick_follows, tick_next, tick_place, tick_spends}
use Rattle.ipc_core.proofs.course.Course.tick.Goals as goal

pub append-requires-clause-follows : goal.append-requires-clause-follows
append-requires-clause-follows c = tick_follows _ _ c.args.self.now.room c.requires.legal c.requires.quiet c.requires.later c.requires.in_range c.requires.due c.requires.room

pub append-requires-clause-room : goal.append-requires-clause-room
append-requires-clause-room c = tick_place _ c.args.moment _ c.requires.legal c.requires.quiet c.requires.later c.requires.in_range c.requires.due c.requires.room

pub append-requires-in-Some-clause-follows : goal.append-requires-in-Some-clause-follows
append-requires-in-Some-clause-follows c = output_follows _ _ (sym c.next_output.ensures ∙ c.in-Some.is)

pub append-requires-in-Some-clause-room : goal.append-requires-in-Some-clause-room
append-requires-in-Some-clause-room c = tick_next _ c.args.moment _ c.requires.legal c.requires.quiet c.requires.later c.requires.in_range c.requires.due c.requires.room _ _ c.append.ensures.entries c.append.ensures.room

pub returns-in-Some-clause-entries : goal.returns-in-Some-clause-entries
returns-in-Some-clause-entries c = tick_continues _ c.args.moment _ c.requires.legal c.requires.quiet c.requires.later c.requires.in_range c.requires.due c.requires.room _ _ c.in-Some.output c.append.ensures.entries (sym c.next_output.ensures ∙ c.in-Some.is) c.append-in-Some.ensures.entries

pub returns-in-Some-clause-spent : goal.returns-in-Some-clause-spent
returns-in-Some-clause-spent c = tick_spends _ c.args.moment _ c.requires.legal c.requires.quiet c.requires.later c.requires.in_range c.requires.due c.requires.room _ _ c.in-Some.output c.append.ensures.entries (sym c.next_output.ensures ∙ c.in-Some.is) c.append-in-Some.ensures.entries

pub returns-in_default-clause-spent : goal.returns-in_default-clause-spent
returns-in_default-clause-spent c = absurd (tick_brings _ c.args.moment _ c.requires.legal c.requires.quiet c.requires.later c.requires.in_range c.requires.due c.requires.room _ c.append.ensures.entries (sym c.next_output.ensures ∙ c.in_default.is))

pub append-requires-clause-fresh : goal.append-requires-clause-fresh
append-requires-clause-fresh c = λ t none. absurd (false≢true none)

pub append-requires-in-Some-clause-fresh : goal.append-requires-in-Some-clause-fresh
append-requires-in-Some-clause-fresh c = λ t none. absurd (false≢true none)

pub returns-in-Some-clause-books : goal.returns-in-Some-clause-books
returns-in-Some-clause-books c = more_books _ _ _ c.append.ensures.books c.append-in-Some.ensures.books
