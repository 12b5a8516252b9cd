use Rattle.std.proofs.Common.{◌≡◌, ◌+◌, ◌-◌, ◌≤◌, ◌∙◌, length, take, ap, ap₂, arith}
use Rattle.std.specs.List.{slice_range}
use Rattle.ipc_items.specs.Rows.{grown}
use Rattle.ipc_items.proofs.RowLemmas.{length-rows}
use Rattle.ipc_items.proofs.CutLemmas.{grown_ends, grown_rows}
use Rattle.ipc_items.proofs.cutting.Cuts.extend_last.Goals as goal

pub invariant_of-self : goal.invariant_of-self
invariant_of-self c =
    let v = c.self.inside in
    let some = ap (λ cuts. length cuts.rows) c.self.view_is in
    let last : (c.len-last.result - 1) + 1 ≡ length v.ends.items = omega (arith, length-rows 0 v.ends.items (take v.len v.payload.items), some, v.ends.ok.0) in
    let within : v.len + c.args.count ≤ length v.payload.items = omega (arith, c.self.invariant.0, v.payload.ok.0) in
    (within, grown_ends v.ends.items _ v.len c.args.count v.payload.items within last c.self.invariant.1)

pub returns-clause-rows : goal.returns-clause-rows
returns-clause-rows c = λ _.
    let v = c.self.inside in
    let some = ap (λ cuts. length cuts.rows) c.self.view_is in
    let last : (c.len-last.result - 1) + 1 ≡ length v.ends.items = omega (arith, length-rows 0 v.ends.items (take v.len v.payload.items), some, v.ends.ok.0) in
    let within : v.len + c.args.count ≤ length v.payload.items = omega (arith, c.self.invariant.0, v.payload.ok.0) in
    let here : v.len ≡ c.args.start = omega arith in
    let told = grown_rows v.ends.items _ v.len c.args.count v.payload.items within last c.self.invariant.1 in
    told ∙ ap₂ (λ cuts start. grown cuts.rows (slice_range cuts.payload start (start + c.args.count))) c.self.view_is here
