use Rattle.std.proofs.Common.{◌≡◌, ap, sym, subst, ◌∙◌, ◌+◌, ◌≤◌, ◌<◌, drop, length, length-drop, insert, vec_len, vec_capacity, arith, rules}
use Rattle.std.proofs.lemmas.List.Edits.{insert_end}
use Rattle.ipc_waits.proofs.Fronts.{drop_inserted}
use Rattle.ipc_waits.proofs.row.Row.insert.Goals as goal

pub insert-requires : goal.insert-requires
insert-requires c =
    let fits = subst (λ v. c.args.index ≤ length v.items) (sym c.self.view_is) c.requires.within in
    omega (arith, fits, c.self.invariant, length-drop c.self.inside.front c.self.inside.waits.items)

pub unreachable-requires : goal.unreachable-requires
unreachable-requires c =
    let room = subst (λ v. length v.items + length v.items < v.capacity) (sym c.self.view_is) c.requires.room in
    let spare : vec_len c.self.inside.waits < vec_capacity c.self.inside.waits = omega (arith, room, c.self.invariant, length-drop c.self.inside.front c.self.inside.waits.items) in
    let ok = c.insert.ensures.succeeds spare in
    search rules

pub push_reserved-requires : goal.push_reserved-requires
push_reserved-requires c =
    let room = subst (λ v. length v.items + length v.items < v.capacity) (sym c.self.view_is) c.requires.room in
    omega (arith, room, c.self.invariant, length-drop c.self.inside.front c.self.inside.waits.items)

pub returns-then-place-len-clause-items : goal.returns-then-place-len-clause-items
returns-then-place-len-clause-items c =
    let fits = subst (λ v. c.args.index ≤ length v.items) (sym c.self.view_is) c.requires.within in
    let at : c.self.inside.front + c.args.index ≡ length c.self.inside.waits.items = omega (arith, c.if-place-len.true, c.len.ensures) in
    ap (drop c.self.inside.front) (c.push_reserved.ensures.items ∙ (sym (insert_end c.self.inside.waits.items c.args.wait) ∙ ap (λ k. insert c.self.inside.waits.items k c.args.wait) (sym at)))
    ∙ (drop_inserted c.self.inside.waits.items c.self.inside.front c.args.index c.args.wait (omega (arith, fits, c.self.invariant, length-drop c.self.inside.front c.self.inside.waits.items))
    ∙ ap (λ v. insert v.items c.args.index c.args.wait) c.self.view_is)

pub returns-clause-items : goal.returns-clause-items
returns-clause-items c =
    let fits = subst (λ v. c.args.index ≤ length v.items) (sym c.self.view_is) c.requires.within in
    ap (drop c.self.inside.front) c.in-Ok.ensures.items
    ∙ (drop_inserted c.self.inside.waits.items c.self.inside.front c.args.index c.args.wait (omega (arith, fits, c.self.invariant, length-drop c.self.inside.front c.self.inside.waits.items))
    ∙ ap (λ v. insert v.items c.args.index c.args.wait) c.self.view_is)
