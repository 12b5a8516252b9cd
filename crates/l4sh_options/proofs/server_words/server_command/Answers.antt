use Rattle.l4sh_options.specs.Server.{named_app}
use Rattle.l4sh_options.proofs.server_words.server_command.Goals as goal

pub returns : goal.returns
returns c = c.with_arguments.ensures named_app c.named_command.ensures
