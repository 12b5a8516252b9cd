use Rattle.ipc_session.proofs.serving.react.Goals as goal

pub returns-in-Ask : goal.returns-in-Ask
returns-in-Ask g c = rw c.in-Ask.is c.ask.ensures
