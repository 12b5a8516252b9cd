use Rattle.std.proofs.Common.{◌≡◌, ◌<◌, ◌∙◌, ap, arith, length, set, sym}
use Rattle.std.proofs.lemmas.List.Edits.{map_over_more}
use Rattle.l4sh_look.specs.Following.{turned_note}
use Rattle.l4sh_look.proofs.notes.turn.Goals as goal

pub calls-preserved : goal.calls-preserved
calls-preserved c =
    let turns = turned_note c.args.number c.args.from in
    let changed : c.turned.result ≡ turned_note c.args.number c.args.from c.call-item.result = c.turned.ensures ∙ ap turns (sym c.call-item.is) in
    let less : c.calls.call-index < length c.args.calls.now.items =
    omega (arith, c.calls-test.true, ap length c.deref_mut-call-items.ensures.value) in
    ap (set c.calls.call-items c.calls.call-index) changed
    ∙ map_over_more turns c.args.calls.now.items c.calls.call-items c.calls.call-index c.call-item.result less c.calls.invariant c.call-item.is
