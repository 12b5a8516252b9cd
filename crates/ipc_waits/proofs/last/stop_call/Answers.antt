use Rattle.std.proofs.Common.{ap, ◌∙◌}
use Rattle.ipc_history.specs.Threads.{is_live}
use Rattle.ipc_waits.proofs.Stops.{stop_told}
use Rattle.ipc_waits.proofs.last.stop_call.Goals as goal

pub returns : goal.returns
returns c =
    let P = c.args.slots.now.past in
    let call = c.args.call.now in
    let partner = c.is_live-is_partner_live in
    let live = partner.ensures ∙ ap (is_live P) c.partner.ensures in
    let told = stop_told P c.kept.ensures.legal c.args.control call c.requires partner.result c.stops_send.result c.stops_receive.result in
    c.stop.ensures ∙ told live c.stops_send.ensures c.stops_receive.ensures
