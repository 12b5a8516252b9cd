-- A command that gets one argument or one subcommand more.
use Rattle.std.proofs.Common.{◌≡◌, ◌∙◌, List, [], ◌∷◌, ◌++◌, ap, refl}
use Rattle.std.specs.Prelude.{IfOk, Result, Ok, Err}
use Rattle.clap.specs.Words.{AddsArg, AddsSubcommand, App, Rule, rule_of, shape_of, with_rule, with_subcommand}
use Rattle.clap.specs.declared.builder.arg.Arg.{Arg}
use Rattle.clap.specs.declared.builder.command.Command.{Command}
use Rattle.l4sh_options.specs.Command.{HasRule, IsOfApp, app_of_row, rule_of_row, with_rules, with_subcommands}
use Rattle.l4sh_options.specs.declared.parts.Argument.{Argument}
use Rattle.l4sh_options.specs.declared.parts.Subcommand.{Subcommand}

pub if_ok : {X E : Type 0} {P Q : X → Type 0} (r : Result X E) → ((x : X) → P x → Q x) → IfOk r P → IfOk r Q
if_ok (Ok x) leads p = leads x p
if_ok (Err e) leads p = p

-- one argument more
pub more : (old new : Command) (arg : Arg) (app : App) (rule : Rule) → AddsArg old arg new → HasRule rule arg
    → IsOfApp app old → IsOfApp (with_rule app rule) new
more old new arg app rule adds has is = (
  adds.shape has.0 ∙ ap (λ a. with_rule a (rule_of arg)) is.0 ∙ ap (with_rule app) has.1,
  adds.globals ∙ rw (is.1, has.0),
)

-- one subcommand more
pub more_command : (old sub new : Command) (app sub_app : App) → AddsSubcommand old sub new → IsOfApp sub_app sub
    → IsOfApp app old → IsOfApp (with_subcommand app sub_app.top) new
more_command old sub new app sub_app adds of is = (
  adds.shape of.1 ∙ ap (λ a. with_subcommand a (shape_of sub)) is.0 ∙ ap (λ (s : App). with_subcommand app s.top) of.0,
  adds.globals ∙ rw (is.1, of.1),
)

-- arguments, and one more
pub with_rules_more : (app : App) (rows : List Argument) (row : Argument) → with_rules app (rows ++ row ∷ []) ≡ with_rule (with_rules app rows) (rule_of_row row)
with_rules_more app [] row = refl
with_rules_more app (first ∷ rows) row = with_rules_more (with_rule app (rule_of_row first)) rows row

-- subcommands, and one more
pub with_subcommands_more : (app : App) (rows : List Subcommand) (row : Subcommand)
    → with_subcommands app (rows ++ row ∷ []) ≡ with_subcommand (with_subcommands app rows) (app_of_row row).top
with_subcommands_more app [] row = refl
with_subcommands_more app (first ∷ rows) row = with_subcommands_more (with_subcommand app (app_of_row first).top) rows row
