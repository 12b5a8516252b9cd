use Rattle.std.proofs.Common.{sym, subst, ◌∙◌}
use Rattle.ipc_frame.specs.declared.version.WireVersion.TheVariants.{One}
use Rattle.ipc_connection.specs.KernelCalls.{TellsMore}
use Rattle.ipc_session.proofs.TellLemmas.{leaves_one, leaves_some}
use Rattle.ipc_session.proofs.memory.MemoryKernelPortKernelPort.post.Goals as goal

pub returns-in-Some : goal.returns-in-Some
returns-in-Some c = record {
  told = subst (TellsMore _ _) (leaves_one One c.args.told c.in-Some.frame (sym c.is_posted.ensures ∙ c.if-is_posted.true) (sym c.reply.ensures ∙ c.in-Some.is)) c.note.ensures;
}

pub returns-in_default : goal.returns-in_default
returns-in_default c = leaves_some One c.args.told (sym c.is_posted.ensures ∙ c.if-is_posted.true) (sym c.reply.ensures ∙ c.in_default.is)
