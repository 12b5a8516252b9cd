-- The command has the arguments so far.
use Rattle.std.proofs.Common.{take}
use Rattle.clap.specs.Words.{App}
use Rattle.l4sh_options.specs.Command.{IsOfApp, with_rules}
use Rattle.l4sh_options.proofs.parts.with_arguments.Given as goal

abbrev pub invariant-loop-row : goal.invariant-loop-row
invariant-loop-row l = (app : App) → IsOfApp app l.initial.made → IsOfApp (with_rules app (take l.row-index l.rows)) l.made
