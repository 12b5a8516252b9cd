use Rattle.std.proofs.Common.{◌≡◌, ◌<◌, ◌∙◌, ap, arith, length, set, sym}
use Rattle.std.proofs.lemmas.List.Edits.{map_over_more}
use Rattle.ipc_host.specs.Guests.{greeted}
use Rattle.ipc_host.proofs.guests.greet.Goals as goal

pub guests-preserved : goal.guests-preserved
guests-preserved c =
    let greets = greeted c.args.ticket c.args.socket.now in
    let changed : c.greet.new.self ≡ greets c.guest-item.result = c.greet.ensures ∙ ap greets (sym c.guest-item.is) in
    let less : c.guests.guest-index < length c.args.guests.now.items =
    omega (arith, c.guests-test.true, ap length c.deref_mut-guest-items.ensures.value) in
    ap (set c.guests.guest-items c.guests.guest-index) changed
    ∙ map_over_more greets c.args.guests.now.items c.guests.guest-items c.guests.guest-index c.guest-item.result less c.guests.invariant c.guest-item.is
