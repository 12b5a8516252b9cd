use Rattle.ipc_core.proofs.CourseLemmas.{input_fresh, more_books, clock_follows, command_follows, command_places, command_spent}
use Rattle.std.proofs.Common.{◌∙◌, ◌++◌, ◌∷◌, [], subst, sym, arith}
use Rattle.ipc_history.specs.Settled.{Continued}
use Rattle.ipc_core.specs.CourseParts.{ComesIdle}
use Rattle.ipc_core.specs.Steps.{at_if_later}
use Rattle.ipc_core.proofs.CourseLemmas.{clocked_idle}
use Rattle.ipc_history.specs.declared.entry.Entry.TheVariants.{Given}
use Rattle.ipc_core.proofs.course.Course.give.Goals as goal

pub clock-requires-clause-follows : goal.clock-requires-clause-follows
clock-requires-clause-follows c = clock_follows _ _ c.requires.quiet c.requires.in_range

pub clock-requires-clause-room : goal.clock-requires-clause-room
clock-requires-clause-room c = (command_places _ _ _ c.args.input c.requires.legal c.requires.quiet c.requires.in_range c.requires.undue c.requires.admissible c.requires.no_clock c.requires.room).0

pub append_input-requires-clause-follows : goal.append_input-requires-clause-follows
append_input-requires-clause-follows c = rw c.clock.ensures.entries (command_follows _ _ c.args.self.now.room c.args.input c.requires.legal c.requires.quiet c.requires.in_range c.requires.undue c.requires.admissible c.requires.no_clock)

pub append_input-requires-clause-room : goal.append_input-requires-clause-room
append_input-requires-clause-room c = rw (c.clock.ensures.entries, c.clock.ensures.room) (let spent = command_spent _ _ c.args.self.now.room c.args.input c.requires.legal c.requires.quiet c.requires.in_range c.requires.undue c.requires.admissible c.requires.no_clock in let fits = c.requires.room in omega (arith, spent, fits))

pub append_input-requires-clause-fresh : goal.append_input-requires-clause-fresh
append_input-requires-clause-fresh c = input_fresh _ _ c.args.moment _ (Given c.args.input) c.requires.legal c.clock.ensures.entries (c.clock.ensures.books.since ∙ c.requires.begun)

pub append_input-requires-clause-idle : goal.append_input-requires-clause-idle
append_input-requires-clause-idle c =
    let front = c.args.self.now.entries ++ at_if_later c.args.self.now.entries c.args.moment in
    subst (λ l. ComesIdle l c.clock.new.self.taken (Given c.args.input)) (sym c.clock.ensures.entries)
    (subst (λ t. ComesIdle front t (Given c.args.input)) (sym c.clock.ensures.books.taken) (clocked_idle _ _ _ c.args.input c.requires.idle))

pub returns-clause-continued : goal.returns-clause-continued
returns-clause-continued c = subst (λ l. Continued (l ++ Given c.args.input ∷ []) c.append_input.new.self.entries) c.clock.ensures.entries c.append_input.ensures.continued

pub returns-clause-spent : goal.returns-clause-spent
returns-clause-spent c =
    let spent = command_spent _ _ c.args.self.now.room c.args.input c.requires.legal c.requires.quiet c.requires.in_range c.requires.undue c.requires.admissible c.requires.no_clock in
    let more = rw c.clock.ensures.entries at c.append_input.ensures.spent in
    omega (arith, spent, more)

pub returns-clause-books : goal.returns-clause-books
returns-clause-books c = more_books _ _ _ c.clock.ensures.books c.append_input.ensures.books
