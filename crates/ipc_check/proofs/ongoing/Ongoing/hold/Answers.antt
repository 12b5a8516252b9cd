use Rattle.std.proofs.Common.{◌≡◌, ◌∙◌, ◌++◌, ◌∷◌, [], ap, sym, subst}
use Rattle.ipc_history.specs.Holding.{Holds}
use Rattle.ipc_history.proofs.HoldingLemmas.{pushed_holds}
use Rattle.ipc_check.proofs.ongoing.Ongoing.hold.Goals as goal

pub lodge-requires-clause-holds : goal.lodge-requires-clause-holds
lodge-requires-clause-holds c =
    let P = c.self.inside.past in
    let held = c.self.inside.held.items in
    let e = c.args.entry in
    let told : c.note.new.self.past ≡ P ++ e ∷ [] = c.note.ensures.past ∙ ap (λ l. l ++ e ∷ []) c.self.invariant.told in
    subst (λ l. Holds l (c.reserve.new.self.items ++ e ∷ [])) (sym told)
    (subst (λ l. Holds (P ++ e ∷ []) (l ++ e ∷ [])) (sym c.in_ok-reserve.ensures.items) (pushed_holds P held e c.self.invariant.holds))

pub invariant_of-self-2 : goal.invariant_of-self-2
invariant_of-self-2 c =
    let e = c.args.entry in
    let told = c.note.ensures.past ∙ (ap (λ l. l ++ e ∷ []) c.self.invariant.told ∙ sym c.add.ensures) in
    record { told = told; holds = subst (λ l. Holds l c.lodge.new.held.items) told c.lodge.ensures }
