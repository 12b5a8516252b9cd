use Rattle.std.proofs.Common.{◌≡◌}
use Rattle.std.specs.Prelude.{Ok}
use Rattle.l4sh_options.proofs.Commands.{if_ok, more_command}
use Rattle.l4sh_options.proofs.parts.with_subcommand.Goals as goal

pub returns-in-Ok : goal.returns-in-Ok
returns-in-Ok c app sub_app is of =
    let sub_was : c.args.sub ≡ Ok c.in-Ok.sub = c.in-Ok.is in
    let sub = rw sub_was at of in
    if_ok c.subcommand.result (λ new adds. more_command _ _ new app sub_app adds sub is) c.subcommand.ensures
