use Rattle.std.proofs.Common.{sym, ◌∙◌}
use Rattle.ipc_waits.proofs.Answering.{bytes_of, moving_open}
use Rattle.ipc_threads.proofs.Holders.{slot_call}
use Rattle.ipc_waits.proofs.transfers.block_of.Goals as goal

pub place_of-place-requires : goal.place_of-place-requires
place_of-place-requires c = moving_open c.args.slots.now.past c.args.number c.requires

pub returns : goal.returns
returns c =
    let P = c.args.slots.now.past in
    let holds = rw (← c.kept.ensures.kept) at c.place_of-place.ensures.holds in
    let there = sym c.call_at.ensures ∙ c.in-Some.is in
    let place = c.place_of-place.result in
    let call = slot_call P c.kept.result.now c.kept.ensures.stands place c.args.number holds c.in-Some.call there in
    let bytes = bytes_of P c.in-Some.call c.args.number call.0 call.1 in
    rw (← bytes.0, ← bytes.1) c.block.ensures
