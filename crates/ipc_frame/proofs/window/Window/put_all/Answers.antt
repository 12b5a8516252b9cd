use Rattle.std.proofs.Common.{◌≡◌, ◌+◌, ◌-◌, length, ap₂, arith}
use borrow.Rule.Slice.PartMut.{put_mid}
use Rattle.ipc_frame.proofs.WindowLemmas.{copied_all}
use Rattle.ipc_frame.proofs.window.Window.put_all.Goals as goal

pub returns-clause-shown : goal.returns-clause-shown
returns-clause-shown c =
    let filled = c.args.self.now.filled in
    let bytes = c.args.bytes.now in
    let size : filled + length bytes - filled ≡ length bytes = omega arith in
    copied_all bytes c.args.out.now c.args.self.now.skip filled _ c.requires.unskipped c.requires.room (ap₂ (λ k xs. put_mid filled k c.args.out.now xs) size c.copy_from_slice.ensures.after)
