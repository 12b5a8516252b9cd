use Rattle.std.proofs.Common.{◌++◌, ◌∷◌, [], ◌∙◌, ap}
use Rattle.ipc_items.proofs.CutLemmas.{begun_ends, begun_rows}
use Rattle.ipc_items.proofs.cutting.Cuts.begin.Goals as goal

pub invariant_of-self-then-not-goes_on : goal.invariant_of-self-then-not-goes_on
invariant_of-self-then-not-goes_on g c =
    let v = c.self.inside in
    (c.self.invariant.0, begun_ends v.ends.items _ v.len v.payload.items (c.push_reserved.ensures.items ∙ ap (λ ends. ends ++ v.len ∷ []) c.in_ok-reserve.ensures.items) c.self.invariant.0 c.self.invariant.1)

pub returns-in_ok-reserve-clause-rows : goal.returns-in_ok-reserve-clause-rows
returns-in_ok-reserve-clause-rows g c =
    let v = c.self.inside in
    begun_rows v.ends.items _ v.len v.payload.items c.args.goes_on _ c.if-not-goes_on.true (ap (λ cuts. cuts.rows) c.self.view_is) (c.push_reserved.ensures.items ∙ ap (λ ends. ends ++ v.len ∷ []) c.in_ok-reserve.ensures.items) c.self.invariant.0 c.self.invariant.1
