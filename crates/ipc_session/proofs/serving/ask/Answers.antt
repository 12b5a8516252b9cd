use Rattle.ipc_session.proofs.TellLemmas.{asked}
use Rattle.ipc_session.proofs.serving.ask.Goals as goal

pub returns : goal.returns
returns g c = asked _ _ _ _ _ _ _ c.ask-told.ensures.told c.ask-told.ensures.answer c.tell.ensures.posts c.tell.ensures.turned
