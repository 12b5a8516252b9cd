use Rattle.std.proofs.Common.{◌≡◌, ◌∙◌, [], subst, sym}
use Rattle.ipc_check.proofs.After.{fault_all}
use Rattle.ipc_chain.specs.Chains.{parts_of}
use Rattle.ipc_chain.specs.Judging.{Joins}
use Rattle.ipc_chain.specs.declared.verdict.ChainVerdict.TheVariants.{NoEntry, Yes}
use Rattle.ipc_chain.proofs.Walking.{part_begun, part_broken, part_joined, part_stood}
use Rattle.ipc_chain.proofs.verdict.walk_part.Goals as goal

pub returns-in-Some-2-clause-no : goal.returns-in-Some-2-clause-no
returns-in-Some-2-clause-no c = (
  λ is. (let bad : NoEntry c.args.file c.in-Some-2.fault.index c.in-Some-2.fault.expected ≡ Yes = sym c.no_entry.ensures ∙ is in absurd cc),
  λ rest. part_broken c.args.chain.now c.join.new.self c.join.new.self (parts_of c.args.part) rest c.legal.ensures (subst (λ k. Joins c.args.chain.now c.join.new.self c.args.part.base k) c.deref.ensures.value (c.in_ok-difference.ensures.joins c.in_default.is))
      (fault_all c.join.new.self.past c.args.part.entries.items c.in-Some-2.fault.index c.in-Some-2.fault.expected (rw c.in-Some-2.is at c.in_ok-fault.ensures.fault)),
)

pub returns-clause-on : goal.returns-clause-on
returns-clause-on c = λ none rest.
    let joins = (subst (λ k. Joins c.args.chain.now c.join.new.self c.args.part.base k) c.deref.ensures.value (c.in_ok-difference.ensures.joins c.in_default.is)) in
    let walks = c.in_ok-fault.ensures.on c.in-None.is in (
      part_joined c.args.chain.now c.join.new.self c.walk.new.chain (parts_of c.args.part) rest c.legal.ensures joins walks,
      part_stood c.args.chain.now c.join.new.self c.walk.new.chain (parts_of c.args.part) rest c.legal.ensures joins walks,
    )

pub returns-in-Some-2-clause-begins : goal.returns-in-Some-2-clause-begins
returns-in-Some-2-clause-begins c = λ joined.
    let joins = (subst (λ k. Joins c.args.chain.now c.join.new.self c.args.part.base k) c.deref.ensures.value (c.in_ok-difference.ensures.joins c.in_default.is)) in
    part_begun c.args.chain.now c.join.new.self c.join.new.self (parts_of c.args.part) [] c.legal.ensures joins

pub returns-clause-begins : goal.returns-clause-begins
returns-clause-begins c = λ joined.
    let joins = (subst (λ k. Joins c.args.chain.now c.join.new.self c.args.part.base k) c.deref.ensures.value (c.in_ok-difference.ensures.joins c.in_default.is)) in
    part_begun c.args.chain.now c.join.new.self c.join.new.self (parts_of c.args.part) [] c.legal.ensures joins
