use Rattle.std.proofs.Common.{◌≡◌, ◌∙◌, ap, arith, length, refl, subst, sym}
use Rattle.std.specs.Prelude.{IsSome}
use Rattle.ipc_words.specs.Limits.{table_slots}
use Rattle.ipc_chain.specs.Chains.{callers_kept}
use Rattle.ipc_chain.specs.Judging.{TakesBelow}
use Rattle.ipc_chain.proofs.Joining.{joins_now, never_joins}
use Rattle.ipc_chain.proofs.Walking.{count_moved}
use Rattle.ipc_chain.proofs.chain.Chain.join_quiet.Goals as goal

pub returns-in-Some-clause-differs : goal.returns-in-Some-clause-differs
returns-in-Some-clause-differs c = λ some.
    never_joins c.args.self.now c.take_below.new.self c.args.base.now c.args.kept.now c.books.ensures (subst (λ l. TakesBelow c.args.self.now.past l table_slots c.args.self.now.taken c.take_below.new.self.taken) (c.deref.ensures.value ∙ c.in_ok-callers.ensures) c.in_ok-take_below.ensures.taken) c.in_ok-take_below.ensures.past c.books-2.ensures
    (c.in_ok-difference.ensures.differs (subst IsSome (sym c.in-Some.is) refl))

pub returns-clause-joins : goal.returns-clause-joins
returns-clause-joins c = λ none.
    let old = c.args.self.now in
    let counted = c.in_ok-counted-in-None.ensures in
    let compared = c.in_ok-difference.ensures in
    let taken = c.in_ok-take_below.ensures in
    let number : c.len.result ≡ length (callers_kept c.args.base.now c.args.kept.now) = omega (arith, ap length c.in_ok-callers.ensures) in
    joins_now old c.take_below.new.self c.args.base.now c.args.kept.now c.books.ensures (subst (λ l. TakesBelow c.args.self.now.past l table_slots c.args.self.now.taken c.take_below.new.self.taken) (c.deref.ensures.value ∙ c.in_ok-callers.ensures) c.in_ok-take_below.ensures.taken) taken.past c.books-2.ensures c.tell.new.self c.requires.quiet (compared.same c.in-None.is)
    (count_moved old.past c.compare.new.self.past old.told c.compare.new.self.told (length (callers_kept c.args.base.now c.args.kept.now)) c.len.result c.args.base.now.takes (compared.past ∙ taken.past) (compared.told ∙ taken.told) number (counted.count none))
    (counted.past ∙ compared.past) (counted.taken ∙ compared.taken) (counted.told none)
