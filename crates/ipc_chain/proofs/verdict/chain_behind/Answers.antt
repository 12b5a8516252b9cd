use Rattle.std.proofs.Common.{◌∙◌, arith, refl, List, [], ◌∷◌, ◌++◌, ap, append_assoc, append-nil, map, subst, sym, IsTrue}
use Rattle.ipc_trace.specs.Parts.{PartParts}
use Rattle.ipc_chain.specs.Chains.{BreaksBehind, ChainFrom, begun, entries_of, parts_of}
use Rattle.ipc_chain.specs.Judging.{ChainParts, IsFirstFile}
use Rattle.ipc_chain.proofs.Walking.{behind_first, first_behind}
use Rattle.ipc_chain.proofs.verdict.chain_behind.Goals as goal

module _ (start : ChainParts) (found : IsFirstFile start) (first : PartParts) (parts : List PartParts) where
  broken : ChainFrom start.past start.taken start.told (begun first ∷ []) → (ChainFrom start.past start.taken start.told (first ∷ parts) → ⊥) → BreaksBehind first parts
  broken begins breaks = (start.past, (behind_first start found (begun first ∷ []) begins, λ whole. breaks (first_behind start found (first ∷ parts) whole)))

pub returns-then-joins-clause-no : goal.returns-then-joins-clause-no
returns-then-joins-clause-no c =
    let no = rw c.in-Some.is at c.in_ok-verdict.ensures.no in
    let begins = rw c.in-Some.is at c.in_ok-verdict.ensures.begins in
    let found : IsTrue c.in_ok-seek.field-0 = grind (arith, c.if-not-branch.false) in
    let first = c.in_ok-seek.ensures.first found in
    (no.0, broken c.seek.new.chain first (parts_of c.args.first) (map parts_of c.args.parts.items) (begins (sym c.joins.ensures ∙ c.if-joins.true)) (no.1 (map parts_of c.args.parts.items)))

pub returns-in-Some-2-clause-no : goal.returns-in-Some-2-clause-no
returns-in-Some-2-clause-no c =
    let found : IsTrue c.in_ok-seek.field-0 = grind (arith, c.if-not-branch.false) in
    let first = c.in_ok-seek.ensures.first found in
    let begins = rw c.in-None.is at c.in_ok-verdict.ensures.begins in
    let on = c.in_ok-verdict.ensures.on c.in-None.is (map parts_of c.args.parts.items) in
    let no = rw c.in-Some-2.is at c.in_ok-verdict-in-None.ensures.no in
    let mid = c.walk_part.new.chain in (
      no.0,
      broken c.seek.new.chain first (parts_of c.args.first) (map parts_of c.args.parts.items) (begins refl)
          (λ chain. no.1 [] (subst (λ l. ChainFrom mid.past mid.taken mid.told l) (sym (append-nil (map parts_of c.args.parts.items))) (on.0 chain))),
    )

pub returns-clause-whole : goal.returns-clause-whole
returns-clause-whole c =
    let found : IsTrue c.in_ok-seek.field-0 = grind (arith, c.if-not-branch.false) in
    let first = c.in_ok-seek.ensures.first found in
    let start = c.seek.new.chain in
    let parts = map parts_of c.args.parts.items in
    let on = c.in_ok-verdict.ensures.on c.in-None.is in
    let ends = c.in_ok-verdict-in-None.ensures.on c.in-None-2.is in
    record {
      before = start.past;
      past = c.in_ok-verdict-in-None.ensures.past c.in-None-2.is ∙ (ap (λ p. p ++ entries_of parts) (c.in_ok-verdict.ensures.past c.in-None.is) ∙ append_assoc start.past c.args.first.entries.items (entries_of parts));
      goes = λ rest chain. behind_first start first (parts_of c.args.first ∷ (parts ++ rest)) ((on (parts ++ rest)).1 ((ends rest).1 chain));
    }
