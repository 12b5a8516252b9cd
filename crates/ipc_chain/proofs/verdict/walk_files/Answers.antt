use Rattle.std.proofs.Common.{◌≡◌, ◌∙◌, ◌++◌, map, subst, sym}
use Rattle.ipc_history.specs.Legal.{Legal}
use Rattle.ipc_check.proofs.After.{fault_all}
use Rattle.ipc_lines.proofs.Options.{IfSome-weaker}
use Rattle.ipc_chain.specs.Chains.{parts_of}
use Rattle.ipc_chain.specs.declared.verdict.ChainVerdict.TheVariants.{NoEntry, Yes}
use Rattle.ipc_chain.proofs.Walking.{chain_legal, first_back, first_on}
use Rattle.ipc_chain.proofs.verdict.walk_files.Goals as goal

pub returns-in-Some-clause-no : goal.returns-in-Some-clause-no
returns-in-Some-clause-no c = (
  λ is. (let bad : NoEntry 0 c.in-Some.fault.index c.in-Some.fault.expected ≡ Yes = sym c.no_entry.ensures ∙ is in absurd cc),
  λ rest chain. fault_all c.args.chain.now.past c.args.entries.items c.in-Some.fault.index c.in-Some.fault.expected (rw c.in-Some.is at c.in_ok-fault.ensures.fault)
      (subst (λ p. Legal (p ++ c.args.entries.items)) (sym c.requires.past) (chain_legal c.args.entries.items _ _ (map parts_of c.args.parts.items ++ rest) chain)),
)

pub returns-in_ok-verdict-in-None-clause-on : goal.returns-in_ok-verdict-in-None-clause-on
returns-in_ok-verdict-in-None-clause-on c = λ none rest.
    let walks = c.in_ok-fault.ensures.on c.in-None.is in
    let on = c.in_ok-verdict-in-None.ensures.on none rest in (
      λ chain. on.0 (first_on c.args.chain.now c.walk.new.chain c.args.entries.items c.requires.past c.requires.taken c.requires.told walks (map parts_of c.args.parts.items ++ rest) chain),
      λ chain. first_back c.args.chain.now c.walk.new.chain c.args.entries.items c.requires.past c.requires.taken c.requires.told walks (map parts_of c.args.parts.items ++ rest) (on.1 chain),
    )

pub returns-in_ok-verdict-in-None-clause-no : goal.returns-in_ok-verdict-in-None-clause-no
returns-in_ok-verdict-in-None-clause-no c =
    let walks = c.in_ok-fault.ensures.on c.in-None.is in
    IfSome-weaker c.in_ok-verdict-in-None.verdict _ _ (λ v no. (no.0, λ rest chain. no.1 rest (first_on c.args.chain.now c.walk.new.chain c.args.entries.items c.requires.past c.requires.taken c.requires.told walks (map parts_of c.args.parts.items ++ rest) chain))) c.in_ok-verdict-in-None.ensures.no
