use Rattle.std.proofs.Common.{◌∷◌, [], All, Contains, sym, subst}
use Rattle.ipc_history.proofs.HoldingLemmas.{first_among}
use Rattle.ipc_check.specs.Ongoing.{IsSpare}
use Rattle.ipc_check.proofs.Going.{set_holds}
use Rattle.ipc_check.proofs.ongoing.lodge.Goals as goal

pub is_spare-requires : goal.is_spare-requires
is_spare-requires c =
    let P = c.args.slots.now.past in
    subst (All (Contains P)) (sym c.deref.ensures.value) (first_among P c.args.held.now.items (c.args.entry ∷ []) c.requires.holds)

pub returns-then-is_spare : goal.returns-then-is_spare
returns-then-is_spare c =
    let P = c.args.slots.now.past in
    set_holds P c.args.held.now.items c.args.place c.args.entry (subst (λ l. IsSpare P l c.args.place) c.deref.ensures.value c.if-is_spare.ensures) c.requires.holds
