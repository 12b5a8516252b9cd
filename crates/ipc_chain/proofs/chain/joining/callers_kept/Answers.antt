use Rattle.std.proofs.Common.{◌∙◌, ◌++◌, ap, ap₂, sym}
use Rattle.std.specs.Option.{option_to_list}
use Rattle.ipc_chain.specs.Chains.{caller_kept}
use Rattle.ipc_chain.proofs.Joining.{mapped_more}
use Rattle.ipc_chain.proofs.chain.joining.callers_kept.Goals as goal

pub loop-place-preserved : goal.loop-place-preserved
loop-place-preserved c =
    let e = c.index-kept-place in
    let f = caller_kept c.args.base.now.over in
    c.in_ok-add.ensures
    ∙ (ap₂ (λ l o. l ++ option_to_list o) c.loop-place.invariant (c.caller_kept.ensures ∙ ap (λ o. caller_kept o e.result) c.over.ensures)
    ∙ sym (mapped_more f c.args.kept.now c.loop-place.place e.result c.loop-place-test.true e.is))
