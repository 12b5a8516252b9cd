use Rattle.std.proofs.Common.{ap, sym, ◌∙◌}
use Rattle.ipc_frame.specs.Versions.{ipcr_byte}
use Rattle.ipc_frame.specs.Numbers.{number_text}
use Rattle.ipc_frame.specs.Replies.{ipcr_of}
use Rattle.ipc_frame.specs.Window.{page, passed}
use Rattle.ipc_frame.proofs.VersionLemmas.{told_of}
use Rattle.ipc_frame.proofs.WindowLemmas.{frame_passed}
use Rattle.ipc_frame.proofs.telling.put_reply.Goals as goal

pub returns-clause-shown : goal.returns-clause-shown
returns-clause-shown c =
    let p0 = page c.args.window.now c.args.out.now in
    let p1 = page c.put_u32.new.self c.put_u32.new.out in
    let size = c.put_u32.ensures.shown ∙ ap (λ n. passed (number_text 4 n) p0) c.reply_size.ensures.value in
    let byte = c.put_u8.ensures.shown ∙ ap (λ n. passed (number_text 1 n) p1) (c.ipcr_byte.ensures ∙ ap ipcr_byte (sym (told_of c.args.version c.args.outcome.now))) in
    let p2 = page c.put_u8.new.self c.put_u8.new.out in
    let p3 = page c.put_reply_parts.new.window c.put_reply_parts.new.out in
    frame_passed (ipcr_of c.args.version c.args.outcome.now) p0 p1 p2 p3 size byte c.put_reply_parts.ensures.shown
