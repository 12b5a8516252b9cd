use Rattle.std.proofs.Common.{◌++◌, ◌∷◌, [], ◌∙◌, ap, append_assoc, arith, length, length-append, sym}
use Rattle.std.specs.Vec.Iter.{into_iter_items}
use Rattle.ipc_chain.proofs.Walking.{first_fault, walks_more}
use Rattle.ipc_chain.proofs.verdict.walk.Goals as goal

pub loop-entry-preserved : goal.loop-entry-preserved
loop-entry-preserved c =
    let l = c.loop-entry.invariant in
    let e = c.in-Some.entry in
    record {
      done = l.done ++ e ∷ [];
      whole = l.whole ∙ (ap (λ x. l.done ++ x) c.in-Some.ensures.items ∙ sym (append_assoc l.done (e ∷ []) (into_iter_items c.next.new.self)));
      walks = walks_more c.args.chain.now c.loop-entry.chain c.go_on.new.self l.done e c.legal.ensures l.walks (c.in_ok-expected.ensures.on c.in_default-2.is);
      place = (let place = l.place in omega (arith, place, length-append l.done (e ∷ [])));
      left = (let left = l.left in omega (arith, left, ap length c.in-Some.ensures.items));
    }

pub returns-in-Some-2-clause-fault : goal.returns-in-Some-2-clause-fault
returns-in-Some-2-clause-fault c =
    let l = c.loop-entry.invariant in
    first_fault c.args.chain.now c.loop-entry.chain c.args.entries.items l.done (into_iter_items c.next.new.self) c.in-Some.entry c.loop-entry.index c.in-Some-2.field-0.expected
    (l.whole ∙ ap (λ x. l.done ++ x) c.in-Some.ensures.items) l.place c.legal.ensures l.walks
    (rw c.in-Some-2.is at c.in_ok-expected.ensures.fault) (rw c.in-Some-2.is at c.in_ok-expected.ensures.expected)
