use Rattle.std.proofs.Common.{sym, ◌∙◌}
use Rattle.ipc_frame.specs.Replies.{ipcr_of}
use Rattle.ipc_session.proofs.WriteLemmas.{text_of_one}
use Rattle.ipc_session.proofs.writing.encoder_of.Goals as goal

pub returns-in-Frame : goal.returns-in-Frame
returns-in-Frame c = rw c.in-Frame.is (text_of_one c.in-Frame.frame ∙ sym c.new.ensures)

pub returns-in-Outcome : goal.returns-in-Outcome
returns-in-Outcome c = rw c.in-Outcome.is (text_of_one (ipcr_of c.in-Outcome.version c.in-Outcome.outcome) ∙ sym c.reply.ensures)
