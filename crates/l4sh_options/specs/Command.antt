-- The commands that `l4sh` and `l4d` ask `clap` for, by the rows of their arguments.
use Rattle.std.specs.Prelude.{◌≡◌, List, Some, [], ◌∷◌, codes, false}
use Rattle.clap.specs.Words.{App, Rule, Text, app_of, new_app, new_rule, rule_of, with_rule, with_subcommand}
use Rattle.clap.specs.declared.builder.action.ArgAction.TheVariants.{SetTrue}
use Rattle.clap.specs.declared.builder.arg.Arg.{Arg}
use Rattle.clap.specs.declared.builder.command.Command.{Command}
use Rattle.clap.specs.declared.builder.command.Command.TheViews.{out-Command as fields_of}
use Rattle.clap.specs.declared.builder.value_parser.ValueParser.TheVariants.{Unsigned}
use Rattle.l4sh_options.specs.declared.parts.Argument.{Argument}
use Rattle.l4sh_options.specs.declared.parts.Kind.{Kind}
use Rattle.l4sh_options.specs.declared.parts.Kind.TheVariants as kind
use Rattle.l4sh_options.specs.declared.parts.Subcommand.{Subcommand}
use Rattle.l4sh_options.specs.declared.parts.Values.{Values}
use Rattle.l4sh_options.specs.declared.parts.Values.TheVariants as values

-- an argument of this rule, which only its own command has
abbrev pub HasRule : Rule → Arg → Type 0
HasRule rule arg = (arg.global ≡ false) × (rule_of arg ≡ rule)

-- a command of this shape, whose arguments only it has
abbrev pub IsOfApp : App → Command → Type 0
IsOfApp app command = (app_of command ≡ app) × ((fields_of command).has_globals ≡ false)

-- the rule of an argument with what it takes, and with what stands where it is left out
abbrev pub values_rule : Values → Rule → Rule
values_rule values.Text rule = rule
values_rule (values.Uses action) rule = record rule { action = Some action }
values_rule (values.Preset text) rule = record rule { defaults = text.now ∷ [] }
values_rule (values.Number least most) rule = record rule { parser = Some (Unsigned least most) }
values_rule (values.Count least most text) rule =
    record rule { parser = Some (Unsigned least most); defaults = text.now ∷ [] }

-- the rule of an argument with how it is given
abbrev pub kind_rule : Text → Kind → Rule → Rule
kind_rule id (kind.Place name values) rule = values_rule values (record rule { value_names = 1 })
kind_rule id kind.Flag rule = record rule { long = Some id; action = Some SetTrue }
kind_rule id (kind.Named name values) rule =
    values_rule values (record rule { long = Some id; value_names = 1 })

-- the rule of an argument
abbrev pub rule_of_row : Argument → Rule
rule_of_row row =
    kind_rule row.id.now row.kind (record (new_rule row.id.now) { required = row.is_required })

-- a command with these arguments more
abbrev pub with_rules : App → List Argument → App
with_rules app [] = app
with_rules app (row ∷ rows) = with_rules (with_rule app (rule_of_row row)) rows

-- a subcommand
abbrev pub app_of_row : Subcommand → App
app_of_row row = with_rules (new_app row.name.now) row.arguments.now

-- a command with these subcommands more
abbrev pub with_subcommands : App → List Subcommand → App
with_subcommands app [] = app
with_subcommands app (row ∷ rows) =
    with_subcommands (with_subcommand app (app_of_row row).top) rows

-- the texts of the limits that stand where an option is left out: each reads as its limit
abbrev pub max_entries_text : Text
max_entries_text = codes "1048576"

abbrev pub max_calls_text : Text
max_calls_text = codes "4294967295"

abbrev pub max_chart_entry_text : Text
max_chart_entry_text = codes "4294967295"

abbrev pub max_connections_text : Text
max_connections_text = codes "65535"

-- `--ID`, a flag
abbrev pub flag_rule : Text → Rule
flag_rule id = record (new_rule id) { long = Some id; action = Some SetTrue }
