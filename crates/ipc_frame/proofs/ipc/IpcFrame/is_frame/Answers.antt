use Rattle.std.proofs.Common.{◌≤◌, length, subst, arith}
use Rattle.ipc_frame.specs.Parts.{FitsIpc}
use Rattle.ipc_frame.proofs.ipc.IpcFrame.is_frame.Goals as goal

pub returns : goal.returns
returns c =
    let fits = subst FitsIpc c.self.view_is c.self.invariant in
    let few : length c.args.self.now.buffer_words ≤ 32 = fits.0.few_buffer_words in
    record {
      fields = (omega arith, (omega arith, (omega arith, (omega arith, (omega arith, (omega arith, (omega arith, tt)))))));
      tail = fits;
    }
