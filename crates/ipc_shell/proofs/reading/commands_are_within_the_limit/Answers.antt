use Rattle.ipc_shell.proofs.CommandLemmas.{commands_are_within_the_limit}
use Rattle.ipc_shell.proofs.reading.commands_are_within_the_limit.Goals as goal

pub returns : goal.returns
returns c = commands_are_within_the_limit
