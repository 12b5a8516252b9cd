use Rattle.std.proofs.Common.{◌≡◌, ◌==◌, false, sym, subst, ◌∙◌, rules, tests}
use Rattle.std.specs.Prelude.{IfNone}
use Rattle.std.proofs.lemmas.Iterator.{YieldsList-from_slice}
use Rattle.std.proofs.lemmas.Iterator.Search.{position_from_yields_List}
use Rattle.ipc_waits.specs.Finding.{is_among}
use Rattle.ipc_waits.proofs.Dropped.{absent_from_position}
use Rattle.ipc_waits.proofs.candidates.Candidates.index_of.Goals as goal

pub returns-clause-none : goal.returns-clause-none
returns-clause-none c =
    let r = position_from_yields_List (λ known. known == c.args.place) _ _ _ c.position.ensures.ran (YieldsList-from_slice c.as_slice.result.now c.iter.ensures.rest) (λ x b q k. search (rules, tests)) in
    subst (λ l. IfNone c.position.result (is_among l c.args.place ≡ false)) (c.as_slice.ensures.value ∙ c.self.view_is)
    (subst (λ o. IfNone o (is_among c.as_slice.result.now c.args.place ≡ false)) (sym r) (absent_from_position (λ known. known == c.args.place) c.as_slice.result.now))
