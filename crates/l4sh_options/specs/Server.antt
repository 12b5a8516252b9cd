-- The command of `l4d`, and what its words ask for.
use Rattle.std.specs.Prelude.{◌≡◌, ◌≤◌, ℕ, List, Option, Some, codes, option_map, [], ◌∷◌, ◌-◌, ◌^◌, true}
use Rattle.std.specs.Str.Parse.{digits_value, without_leading_plus}
use Rattle.ipc_words.specs.Limits.{max_space, max_connections}
use Rattle.clap.specs.Words.{Row, Text, first_of, matches_of, App, Rule, new_app, new_rule, with_rule}
use Rattle.clap.specs.Simple.{on_top}
use Rattle.clap.specs.declared.builder.action.ArgAction.TheVariants.{Set}
use Rattle.clap.specs.declared.builder.value_parser.ValueParser.TheVariants.{Unsigned}
use Rattle.l4sh_options.specs.Shell.{IsFlagIn, number_in}
use Rattle.l4sh_options.specs.TraceFiles.{HasKeepIn, HasSizeIn}
use Rattle.l4sh_options.specs.Command.{flag_rule, max_connections_text}
use Rattle.l4sh_options.specs.declared.server.ServerOptions.{ServerOptions}
use Rattle.l4sh_options.specs.declared.server.Counts.{Counts}

-- `--ID NAME`
abbrev pub listed_rule : Text → Rule
listed_rule id = record (new_rule id) { long = Some id; value_names = 1 }

-- `--ID N`: a number from 1 up to most, by default the one that a text reads as
abbrev pub count_rule : Text → ℕ → Text → Rule
count_rule id most default = record (new_rule id) {
  long = Some id;
  value_names = 1;
  parser = Some (Unsigned 1 most);
  defaults = default ∷ [];
}

-- `--dir DIR`, which has to be there
abbrev pub dir_rule : Rule
dir_rule = record (new_rule (codes "dir")) {
  long = Some (codes "dir");
  value_names = 1;
  required = true;
  action = Some Set;
}

-- `--spaces N`, which has to be there: 1 to the greatest space
abbrev pub spaces_rule : Rule
spaces_rule = record (new_rule (codes "spaces")) {
  long = Some (codes "spaces");
  value_names = 1;
  required = true;
  parser = Some (Unsigned 1 max_space);
}

-- `--connections M`: 1 to the greatest number of a connection
abbrev pub connections_rule : Rule
connections_rule = count_rule (codes "connections") max_connections max_connections_text

-- `--mode OCTAL`
abbrev pub mode_rule : Rule
mode_rule = record (new_rule (codes "mode")) {
  long = Some (codes "mode");
  value_names = 1;
  defaults = codes "600" ∷ [];
}

-- `--live N`: 1 to the greatest number of a connection
abbrev pub live_rule : Rule
live_rule = count_rule (codes "live") max_connections max_connections_text

-- `--hello-within SECONDS`: 1 to the greatest number of 16 bits
abbrev pub hello_rule : Rule
hello_rule = count_rule (codes "hello-within") (2 ^ 16 - 1) (codes "10")

-- `--trace FILE`
abbrev pub trace_rule : Rule
trace_rule = record (new_rule (codes "trace")) { long = Some (codes "trace"); value_names = 1 }

-- `l4d`, which tells its version
abbrev pub named_app : App
named_app = on_top (λ shape. record shape { has_version = true }) (new_app (codes "l4d"))

-- `l4d` with where it listens
abbrev pub listening_app : App
listening_app = with_rule (with_rule (with_rule (with_rule named_app
    dir_rule) spaces_rule) mode_rule) (flag_rule (codes "replace"))

-- `l4d` with whom it serves
abbrev pub serving_app : App
serving_app = with_rule (with_rule (with_rule (with_rule listening_app
    connections_rule) (flag_rule (codes "keep-open"))) live_rule) hello_rule

-- `l4d` with its trace, and the size and the number of its files
abbrev pub traced_app : App
traced_app = with_rule (with_rule (with_rule (with_rule serving_app
    (flag_rule (codes "probe"))) trace_rule) (listed_rule (codes "trace-size"))) (listed_rule (codes "trace-keep"))

-- `l4d` with whether it needs its trace, and with its log
abbrev pub telling_app : App
telling_app = with_rule (with_rule traced_app (flag_rule (codes "trace-required"))) (flag_rule (codes "log"))

-- `l4d` with whom it tells that it listens, and who may ask it
abbrev pub server_app : App
server_app = with_rule (with_rule telling_app (listed_rule (codes "ready-fd"))) (flag_rule (codes "no-control"))

-- the descriptor is the decimal number that the matches have for it; none where they have none
abbrev pub HasReadyFdIn : List Row → Option ℕ → Type 0
HasReadyFdIn rows fd =
    option_map (λ text. digits_value 10 (without_leading_plus text)) (first_of (codes "ready-fd") rows) ≡ fd

-- the options have what the matches have for each of them. The permissions are an octal number
pub record HasOptionsIn (rows : List Row) (options : ServerOptions) : Type 0 where
  pub dir : first_of (codes "dir") rows ≡ Some options.dir.now
  pub spaces : number_in rows (codes "spaces") ≡ Some options.spaces
  pub connections : number_in rows (codes "connections") ≡ Some options.connections
  pub keep_open : IsFlagIn rows (codes "keep-open") options.keep_open
  pub mode : option_map (λ text. digits_value 8 (without_leading_plus text)) (first_of (codes "mode") rows)
      ≡ Some options.mode
  pub live : number_in rows (codes "live") ≡ Some options.live
  pub hello_within : number_in rows (codes "hello-within") ≡ Some options.hello_within
  pub replace : IsFlagIn rows (codes "replace") options.replace
  pub probe : IsFlagIn rows (codes "probe") options.probe
  pub trace_required : IsFlagIn rows (codes "trace-required") options.trace_required
  pub log : IsFlagIn rows (codes "log") options.log
  pub ready_fd : HasReadyFdIn rows options.ready_fd
  pub no_control : IsFlagIn rows (codes "no-control") options.no_control
  pub trace : first_of (codes "trace") rows ≡ option_map (λ file. file.now) options.trace
  pub trace_size : HasSizeIn rows options.trace_size
  pub trace_keep : HasKeepIn rows options.trace_keep

-- the numbers are those of the matches
pub record HasCountsIn (rows : List Row) (counts : Counts) : Type 0 where
  pub spaces : number_in rows (codes "spaces") ≡ Some counts.spaces
  pub connections : number_in rows (codes "connections") ≡ Some counts.connections
  pub live : number_in rows (codes "live") ≡ Some counts.live
  pub hello_within : number_in rows (codes "hello-within") ≡ Some counts.hello_within

-- each number is at least 1, and there are no more spaces than there may be
abbrev pub AreWithinLimits : Counts → Type 0
AreWithinLimits counts = (1 ≤ counts.spaces) × (counts.spaces ≤ max_space)
    × (1 ≤ counts.connections) × (1 ≤ counts.live) × (1 ≤ counts.hello_within)

-- the options have what the words, or the defaults, give them
abbrev pub HasOptionsOf : List Text → ServerOptions → Type 0
HasOptionsOf words options = HasOptionsIn (matches_of server_app words) options
