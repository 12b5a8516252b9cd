use Rattle.l4sh_options.specs.Shell.{shell_named_app}
use Rattle.l4sh_options.proofs.shell.shell_command.Goals as goal

pub returns : goal.returns
returns c = c.with_subcommands.ensures shell_named_app c.shell_named.ensures
