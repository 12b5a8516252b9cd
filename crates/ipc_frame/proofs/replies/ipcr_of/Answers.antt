use Rattle.std.proofs.Common.{refl}
use Rattle.ipc_frame.proofs.PlacingLemmas.{made_of}
use Rattle.ipc_frame.proofs.replies.ipcr_of.Goals as goal

pub returns-in-Ok : goal.returns-in-Ok
returns-in-Ok c =
    let made = made_of c.args.version c.args.outcome.now c.in-Ok.parts c.new.result c.fits.ensures.fault c.in-Ok.ensures c.new.ensures.frame in
    rw made (record { ok = refl; memory = tt })
