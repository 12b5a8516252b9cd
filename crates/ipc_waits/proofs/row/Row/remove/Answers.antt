use Rattle.std.proofs.Common.{ap, sym, subst, ◌∙◌, ◌<◌, drop, length, length-drop, remove, arith}
use Rattle.ipc_waits.proofs.Fronts.{drop_next, drop_removed}
use Rattle.ipc_waits.proofs.row.Row.remove.Goals as goal

pub returns-then-spare-lt2-clause-items : goal.returns-then-spare-lt2-clause-items
returns-then-spare-lt2-clause-items c =
    c.remove.ensures.items ∙ (ap (λ l. remove l c.args.index) c.close_up.ensures.items ∙ ap (λ v. remove v.items c.args.index) c.self.view_is)

pub returns-then-index-eq0-clause-items : goal.returns-then-index-eq0-clause-items
returns-then-index-eq0-clause-items c =
    let within = subst (λ v. c.args.index < length v.items) (sym c.self.view_is) c.requires in
    drop_next c.self.inside.waits.items c.self.inside.front (omega (arith, within, length-drop c.self.inside.front c.self.inside.waits.items))
    ∙ (ap (remove (drop c.self.inside.front c.self.inside.waits.items)) (sym c.if-index-eq0.true) ∙ ap (λ v. remove v.items c.args.index) c.self.view_is)

pub returns-clause-items : goal.returns-clause-items
returns-clause-items c =
    let within = subst (λ v. c.args.index < length v.items) (sym c.self.view_is) c.requires in
    ap (drop c.self.inside.front) c.remove-2.ensures.items
    ∙ (drop_removed c.self.inside.waits.items c.self.inside.front c.args.index (omega (arith, within, c.self.invariant, length-drop c.self.inside.front c.self.inside.waits.items))
    ∙ ap (λ v. remove v.items c.args.index) c.self.view_is)
