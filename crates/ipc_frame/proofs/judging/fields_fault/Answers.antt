use Rattle.ipc_frame.proofs.JudgeLemmas.{no_words, not_pieced}
use Rattle.ipc_frame.proofs.judging.fields_fault.Goals as goal

pub returns-in_default : goal.returns-in_default
returns-in_default c = no_words c.args.kind c.args.size _ c.requires.right c.in_default.not-Ipc (not_pieced c.args.kind c.in_default.not-Ipcr)
