use Rattle.std.proofs.Common.{◌∙◌, sym, ap, length, arith}
use Rattle.std.proofs.lemmas.List.{length_push}
use Rattle.ipc_compact.proofs.KeptLemmas.{alive, busy_more, idle_more, none_more, within}
use Rattle.ipc_compact.proofs.found.Found.keep_at.Goals as goal

pub add_thread-requires : goal.add_thread-requires
add_thread-requires c = let few = within c.args.desks.now.past c.args.desks.now.taken c.args.place c.args.self.now c.requires.kept in let place = c.requires.within in omega (arith, few.2, place)

pub is_busy-requires : goal.is_busy-requires
is_busy-requires c = alive c.args.desks.now.past c.args.desks.now.taken c.args.place c.args.self.now c.requires.kept c.in-Some.thread (rw c.requires.slots at (sym c.thread_at.ensures ∙ c.in-Some.is))

pub add-requires-clause-calls : goal.add-requires-clause-calls
add-requires-clause-calls c = let few = within c.args.desks.now.past c.args.desks.now.taken c.args.place c.args.self.now c.requires.kept in let place = c.requires.within in omega (arith, few.0, place, ap (λ k. length k.calls) c.add_thread.ensures)

pub add-requires-clause-partners : goal.add-requires-clause-partners
add-requires-clause-partners c = let few = within c.args.desks.now.past c.args.desks.now.taken c.args.place c.args.self.now c.requires.kept in let place = c.requires.within in omega (arith, few.1, place, ap (λ k. length k.partners) c.add_thread.ensures)

pub add-requires-clause-threads : goal.add-requires-clause-threads
add-requires-clause-threads c = let few = within c.args.desks.now.past c.args.desks.now.taken c.args.place c.args.self.now c.requires.kept in let place = c.requires.within in omega (arith, few.2, place, ap (λ k. length k.threads) c.add_thread.ensures, length_push c.args.self.now.threads c.in-Some.thread)

pub returns-then-is_busy : goal.returns-then-is_busy
returns-then-is_busy c = busy_more c.args.desks.now.past c.args.desks.now.taken c.args.place c.args.self.now c.requires.kept c.in-Some.thread (rw c.requires.slots at (sym c.thread_at.ensures ∙ c.in-Some.is)) c.kept.result.now (rw c.requires.partners at c.kept.ensures.knows) (sym c.is_busy.ensures ∙ c.if-is_busy.true) c.add_thread.new.self c.add.new.self c.add_thread.ensures c.at.result c.at.ensures c.add.ensures.calls c.add.ensures.partners c.add.ensures.threads

pub returns-else-is_busy : goal.returns-else-is_busy
returns-else-is_busy c = idle_more c.args.desks.now.past c.args.desks.now.taken c.args.place c.args.self.now c.requires.kept c.in-Some.thread (rw c.requires.slots at (sym c.thread_at.ensures ∙ c.in-Some.is)) c.add_thread.new.self (sym c.is_busy.ensures ∙ c.if-is_busy.false) c.add_thread.ensures

pub returns-in_default : goal.returns-in_default
returns-in_default c = none_more c.args.desks.now.past c.args.desks.now.taken c.args.place c.args.self.now c.requires.kept (rw c.requires.slots at (sym c.thread_at.ensures ∙ c.in_default.is))
