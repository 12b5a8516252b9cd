use Rattle.std.proofs.Common.{◌∙◌, ◌++◌, ◌∷◌, [], ap, sym, subst}
use Rattle.ipc_history.specs.Holding.{Holds}
use Rattle.ipc_check.proofs.Going.{passed_holds}
use Rattle.ipc_check.proofs.ongoing.Ongoing.pass.Goals as goal

pub invariant_of-self : goal.invariant_of-self
invariant_of-self c =
    let e = c.args.entry.now in
    record {
      told = c.note-changes.ensures.past ∙ (ap (λ l. l ++ e ∷ []) c.self.invariant.told ∙ sym c.add.ensures);
      holds = subst (λ l. Holds l c.self.inside.held.items) (sym c.add.ensures)
          (passed_holds c.self.inside.past c.self.inside.held.items e c.requires.no_call c.self.invariant.holds);
    }
