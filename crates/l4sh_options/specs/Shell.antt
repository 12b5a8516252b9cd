-- The command of `l4sh`, and what its words ask for.
use Rattle.std.specs.Prelude.{◌≡◌, ◌≤◌, ◌⊎◌, ℕ, Bool, List, [], ◌∷◌, map, Option, Some, codes, option_map, true, false, ⊤, IsNone, IsSome, IsSomeAnd, None}
use Rattle.std.specs.Borrow.{Bor}
use Rattle.std.specs.Str.Parse.{digits_value, without_leading_plus}
use Rattle.ipc_words.specs.Limits.{max_entries, max_calls, max_chart_entry, max_space, max_thread_number}
use Rattle.clap.specs.Words.{IsUnsignedIn, Row, Text, all_of, first_of, one_of, subcommand_of, takes, App, Rule, new_app, new_rule, with_rule, with_subcommand}
use Rattle.clap.specs.Values.{kind_of}
use Rattle.clap.specs.declared.error.Error.{Error}
use Rattle.clap.specs.declared.error.kind.ErrorKind.TheVariants.{DisplayVersion, OutOfMemory}
use Rattle.clap.specs.Simple.{on_top}
use Rattle.clap.specs.declared.builder.action.ArgAction.TheVariants.{Append, SetTrue}
use Rattle.clap.specs.declared.builder.value_parser.ValueParser.TheVariants.{Unsigned}
use Rattle.l4sh_options.specs.Command.{flag_rule, max_calls_text, max_chart_entry_text, max_entries_text}
use Rattle.l4sh_options.specs.declared.chart.ChartOptions.{ChartOptions}
use Rattle.l4sh_options.specs.declared.count.CountOptions.{CountOptions}
use Rattle.l4sh_options.specs.declared.follow.FollowOptions.{FollowOptions}
use Rattle.l4sh_options.specs.declared.run.ScriptLimits.{ScriptLimits}
use Rattle.l4sh_options.specs.declared.asked.ShellOptions.{ShellOptions}
use Rattle.l4sh_options.specs.declared.asked.ShellOptions.TheVariants.{Run, Wire, Check, Part, Chart, State, Script, Explain, Tag, Period, Count, Follow, Talk, TalkTo, Migrate, Rotate}
use Rattle.l4sh_options.specs.declared.state.StateOptions.{StateOptions}
use Rattle.l4sh_options.specs.declared.talk.TalkOptions.{TalkOptions}

-- `--ID N`: a number up to most, by default the one that a text reads as
abbrev pub number_rule : Text → ℕ → Text → Rule
number_rule id most default = record (new_rule id) {
  long = Some id;
  value_names = 1;
  parser = Some (Unsigned 0 most);
  defaults = default ∷ [];
}

-- OLD or NEW, which has to be there
abbrev pub place_rule : Text → Rule
place_rule id = record (new_rule id) { value_names = 1; required = true }

-- FILE, once or more
abbrev pub files_rule : Rule
files_rule = record (new_rule (codes "file")) { value_names = 1; required = true; action = Some Append }

-- WORD, which has to be there
abbrev pub word_rule : Rule
word_rule = record (new_rule (codes "word")) { value_names = 1; required = true }

-- `--threads LIST`
abbrev pub threads_rule : Rule
threads_rule = record (new_rule (codes "threads")) { long = Some (codes "threads"); value_names = 1 }

-- `--text`
abbrev pub text_rule : Rule
text_rule = record (new_rule (codes "text")) { long = Some (codes "text"); action = Some SetTrue }

abbrev pub run_app : App
run_app = with_rule
    (with_rule (new_app (codes "run")) (number_rule (codes "entries") max_entries max_entries_text))
    (number_rule (codes "calls") max_calls max_calls_text)

abbrev pub wire_app : App
wire_app = new_app (codes "wire")

abbrev pub check_app : App
check_app = with_rule (new_app (codes "check")) files_rule

-- `part` with the files before it
abbrev pub part_app : App
part_app = with_rule (with_rule (new_app (codes "part")) files_rule) (flag_rule (codes "untaken"))

-- `chart` with its files and the entries that it shows
abbrev pub chart_places_app : App
chart_places_app = with_rule (with_rule (with_rule (new_app (codes "chart")) files_rule)
    (number_rule (codes "from") max_chart_entry (codes "1")))
    (number_rule (codes "to") max_chart_entry max_chart_entry_text)

-- `chart` with how it draws them too
abbrev pub chart_forms_app : App
chart_forms_app = with_rule (with_rule (with_rule (with_rule chart_places_app threads_rule) text_rule)
    (flag_rule (codes "html"))) (flag_rule (codes "unfolded"))

abbrev pub chart_app : App
chart_app = with_rule (with_rule (with_rule chart_forms_app
    (number_rule (codes "page") max_chart_entry (codes "0")))
    (number_rule (codes "width") max_chart_entry (codes "0"))) (flag_rule (codes "time"))

abbrev pub script_app : App
script_app = with_rule (new_app (codes "script")) files_rule

-- `state` with its files and the entry after which it is
abbrev pub state_app : App
state_app = with_rule (with_rule (with_rule (new_app (codes "state")) files_rule)
    (number_rule (codes "at") max_chart_entry max_chart_entry_text)) (flag_rule (codes "time"))

-- `count` with its files
abbrev pub count_app : App
count_app = with_rule (with_rule (with_rule (new_app (codes "count")) files_rule) (flag_rule (codes "json")))
    (flag_rule (codes "time"))

-- `--label LABEL`
abbrev pub label_rule : Rule
label_rule = record (new_rule (codes "label")) { long = Some (codes "label"); value_names = 1 }

-- `follow` with its files and what is told
abbrev pub follow_app : App
follow_app = with_rule (with_rule (with_rule (with_rule (with_rule (new_app (codes "follow")) files_rule)
    threads_rule) label_rule) (flag_rule (codes "failures"))) (flag_rule (codes "time"))

-- DIR, which may be there
abbrev pub folder_rule : Rule
folder_rule = record (new_rule (codes "dir")) { value_names = 1 }

-- `--ID N`: a number from 1 up to most, by default 1
abbrev pub first_rule : Text → ℕ → Rule
first_rule id most = record (new_rule id) {
  long = Some id;
  value_names = 1;
  parser = Some (Unsigned 1 most);
  defaults = codes "1" ∷ [];
}

-- `talk` with the folder of a server, and the thread
abbrev pub talk_places_app : App
talk_places_app = with_rule (with_rule (new_app (codes "talk")) folder_rule)
    (first_rule (codes "thread") max_thread_number)

abbrev pub talk_app : App
talk_app = with_rule talk_places_app (first_rule (codes "space") max_space)

-- `migrate` with the trace that it reads and the one that it writes
abbrev pub migrate_app : App
migrate_app = with_rule (with_rule (new_app (codes "migrate")) (place_rule (codes "old")))
    (place_rule (codes "new"))

-- a subcommand of one word
abbrev pub word_app : Text → App
word_app name = with_rule (new_app name) word_rule

-- `l4sh`, which tells its version, and of whose subcommands one has to be there
abbrev pub shell_named_app : App
shell_named_app = on_top (λ shape. record shape { has_version = true; subcommand_required = true })
    (new_app (codes "l4sh"))

-- `l4sh` with `run` and `check`
abbrev pub proving_app : App
proving_app = with_subcommand (with_subcommand shell_named_app run_app.top) check_app.top

-- `l4sh` with `chart` and `wire` too
abbrev pub drawing_app : App
drawing_app = with_subcommand (with_subcommand proving_app chart_app.top) wire_app.top

-- `l4sh` with `script` and `state` too
abbrev pub tracing_app : App
tracing_app = with_subcommand (with_subcommand drawing_app script_app.top) state_app.top

-- `l4sh` with `explain` and `tag` too
abbrev pub explaining_app : App
explaining_app = with_subcommand (with_subcommand tracing_app (word_app (codes "explain")).top)
    (word_app (codes "tag")).top

-- `l4sh` with `period` and `count` too
abbrev pub counting_app : App
counting_app = with_subcommand (with_subcommand explaining_app (word_app (codes "period")).top)
    count_app.top

-- `l4sh` with `follow` and `talk` too
abbrev pub talking_app : App
talking_app = with_subcommand (with_subcommand counting_app follow_app.top) talk_app.top

-- `l4sh` with `migrate` and `part` too
abbrev pub writing_app : App
writing_app = with_subcommand (with_subcommand talking_app migrate_app.top) part_app.top

-- `l4sh` with its subcommands, of which one has to be there
abbrev pub shell_app : App
shell_app = with_subcommand writing_app (word_app (codes "rotate")).top

-- each number is within its limit
abbrev pub AreWithinLimits : ScriptLimits → Type 0
AreWithinLimits limits = (limits.entries ≤ max_entries) × (limits.calls ≤ max_calls)

-- a number from 1 up to most
abbrev pub IsOneUpTo : ℕ → ℕ → Type 0
IsOneUpTo most number = (1 ≤ number) × (number ≤ most)

-- the number of a thread is within its limit, and that of a space
abbrev pub AreNumbersWithin : TalkOptions → Type 0
AreNumbersWithin talk = IsOneUpTo max_thread_number talk.thread × IsOneUpTo max_space talk.space

-- the limits of a script are, and the numbers of a thread and a space
abbrev pub IsWithinLimits : ShellOptions → Type 0
IsWithinLimits (Run limits) = AreWithinLimits limits
IsWithinLimits Wire = ⊤
IsWithinLimits (Check files) = ⊤
IsWithinLimits (Part files is_untaken) = ⊤
IsWithinLimits (Chart files chart) = ⊤
IsWithinLimits (State files state) = ⊤
IsWithinLimits (Script files) = ⊤
IsWithinLimits (Explain word) = ⊤
IsWithinLimits (Tag word) = ⊤
IsWithinLimits (Period word) = ⊤
IsWithinLimits (Count files count) = ⊤
IsWithinLimits (Follow files follow) = ⊤
IsWithinLimits Talk = ⊤
IsWithinLimits (TalkTo talk) = AreNumbersWithin talk
IsWithinLimits (Migrate old new) = ⊤
IsWithinLimits (Rotate dir) = ⊤

-- the number that an option has among the matches of a subcommand
abbrev pub number_in : List Row → Text → Option ℕ
number_in rows id = option_map (λ text. digits_value 10 (without_leading_plus text)) (one_of id rows)

-- whether a flag is set among the matches of a subcommand
abbrev pub IsFlagIn : List Row → Text → Bool → Type 0
IsFlagIn rows id value = (one_of id rows ≡ Some (codes "true") → value ≡ true)
    × (one_of id rows ≡ Some (codes "false") → value ≡ false)

-- the files are those of the matches
abbrev pub HasFilesIn : List Row → List (Bor Text) → Type 0
HasFilesIn rows files = all_of (codes "file") rows ≡ Some (map (λ file. file.now) files)

-- so they are, where they were asked for before the subcommand is known
abbrev pub AreFilesIn : List Row → Option (List (Bor Text)) → Type 0
AreFilesIn rows files = option_map (λ texts. map (λ text. text.now) texts) files ≡ all_of (codes "file") rows

-- the options of `chart` are those of its matches
abbrev pub HasChartIn : List Row → ChartOptions → Type 0
HasChartIn rows chart = (number_in rows (codes "from") ≡ Some chart.from)
    × (number_in rows (codes "to") ≡ Some chart.to)
    × (first_of (codes "threads") rows ≡ option_map (λ list. list.now) chart.threads)
    × IsFlagIn rows (codes "text") chart.is_text
    × IsFlagIn rows (codes "html") chart.is_html
    × IsFlagIn rows (codes "unfolded") chart.is_unfolded
    × (number_in rows (codes "page") ≡ Some chart.page)
    × (number_in rows (codes "width") ≡ Some chart.width)
    × IsFlagIn rows (codes "time") chart.is_timed

-- the options of `state` are those of its matches
abbrev pub HasStateIn : List Row → StateOptions → Type 0
HasStateIn rows state = (number_in rows (codes "at") ≡ Some state.at)
    × IsFlagIn rows (codes "time") state.is_timed

-- the options of `count` are those of its matches
abbrev pub HasCountIn : List Row → CountOptions → Type 0
HasCountIn rows count = IsFlagIn rows (codes "json") count.is_json
    × IsFlagIn rows (codes "time") count.is_timed

-- the options of `follow` are those of its matches
abbrev pub HasFollowIn : List Row → FollowOptions → Type 0
HasFollowIn rows follow = (first_of (codes "threads") rows ≡ option_map (λ list. list.now) follow.threads)
    × (first_of (codes "label") rows ≡ option_map (λ label. label.now) follow.label)
    × IsFlagIn rows (codes "failures") follow.failures
    × IsFlagIn rows (codes "time") follow.is_timed

-- the number that an option has, which is 1 up to most
abbrev pub IsCountIn : List Row → Text → ℕ → ℕ → Type 0
IsCountIn rows id most number = (number_in rows id ≡ Some number) × IsOneUpTo most number

-- the options of `talk` with a server are those of its matches
abbrev pub HasTalkIn : List Row → TalkOptions → Type 0
HasTalkIn rows talk = (first_of (codes "dir") rows ≡ Some talk.dir.now)
    × (number_in rows (codes "thread") ≡ Some talk.thread)
    × (number_in rows (codes "space") ≡ Some talk.space)

-- `talk` has no server, and no number of a thread or a space of one
abbrev pub HasNoServerIn : List Row → Type 0
HasNoServerIn rows = (first_of (codes "dir") rows ≡ None)
    × (number_in rows (codes "thread") ≡ Some 1)
    × (number_in rows (codes "space") ≡ Some 1)

-- the limits are those of the matches
abbrev pub HasLimitsIn : List Row → ScriptLimits → Type 0
HasLimitsIn rows limits = (number_in rows (codes "entries") ≡ Some limits.entries)
    × (number_in rows (codes "calls") ≡ Some limits.calls)

-- the options are those of the matches of the subcommand of this name
unfoldable pub HasMatchesIn : Text → List Row → ShellOptions → Type 0
HasMatchesIn name rows (Run limits) = (name ≡ codes "run") × HasLimitsIn rows limits
HasMatchesIn name rows Wire = name ≡ codes "wire"
HasMatchesIn name rows (Check files) = (name ≡ codes "check") × HasFilesIn rows files.items
HasMatchesIn name rows (Part files is_untaken) = (name ≡ codes "part") × HasFilesIn rows files.items
    × IsFlagIn rows (codes "untaken") is_untaken
HasMatchesIn name rows (Chart files chart) = (name ≡ codes "chart") × HasFilesIn rows files.items
    × HasChartIn rows chart
HasMatchesIn name rows (State files state) = (name ≡ codes "state") × HasFilesIn rows files.items
    × HasStateIn rows state
HasMatchesIn name rows (Script files) = (name ≡ codes "script") × HasFilesIn rows files.items
HasMatchesIn name rows (Explain word) = (name ≡ codes "explain")
    × (first_of (codes "word") rows ≡ Some word.now)
HasMatchesIn name rows (Tag word) = (name ≡ codes "tag")
    × (first_of (codes "word") rows ≡ Some word.now)
HasMatchesIn name rows (Period word) = (name ≡ codes "period")
    × (first_of (codes "word") rows ≡ Some word.now)
HasMatchesIn name rows (Count files count) = (name ≡ codes "count") × HasFilesIn rows files.items
    × HasCountIn rows count
HasMatchesIn name rows (Follow files follow) = (name ≡ codes "follow") × HasFilesIn rows files.items
    × HasFollowIn rows follow
HasMatchesIn name rows Talk = (name ≡ codes "talk") × HasNoServerIn rows
HasMatchesIn name rows (TalkTo talk) = (name ≡ codes "talk") × HasTalkIn rows talk
HasMatchesIn name rows (Migrate old new) = (name ≡ codes "migrate")
    × (first_of (codes "old") rows ≡ Some old.now) × (first_of (codes "new") rows ≡ Some new.now)
HasMatchesIn name rows (Rotate dir) = (name ≡ codes "rotate")
    × (first_of (codes "word") rows ≡ Some dir.now)

-- the matches have a decimal number within its limit for each limit of a script
abbrev pub ReadsAsRun : List Row → Type 0
ReadsAsRun rows = IsSomeAnd (one_of (codes "entries") rows) (IsUnsignedIn 0 max_entries)
    × IsSomeAnd (one_of (codes "calls") rows) (IsUnsignedIn 0 max_calls)

-- the matches have files, which is all that `check`, `part`, `script`, `count` and `follow` need
abbrev pub ReadsAsFiles : List Row → Type 0
ReadsAsFiles rows = IsSome (all_of (codes "file") rows)

-- the subcommand of this name takes the files of one history
abbrev pub TakesFiles : Text → Type 0
TakesFiles name = (name ≡ codes "check") ⊎ (name ≡ codes "part")

-- the matches of `chart` have files, and a decimal number of 32 bits for each place and each size
abbrev pub ReadsAsChart : List Row → Type 0
ReadsAsChart rows = ReadsAsFiles rows
    × IsSomeAnd (one_of (codes "from") rows) (IsUnsignedIn 0 max_chart_entry)
    × IsSomeAnd (one_of (codes "to") rows) (IsUnsignedIn 0 max_chart_entry)
    × IsSomeAnd (one_of (codes "page") rows) (IsUnsignedIn 0 max_chart_entry)
    × IsSomeAnd (one_of (codes "width") rows) (IsUnsignedIn 0 max_chart_entry)

-- the matches of `state` have files, and a decimal number of 32 bits for the entry
abbrev pub ReadsAsState : List Row → Type 0
ReadsAsState rows = ReadsAsFiles rows
    × IsSomeAnd (one_of (codes "at") rows) (IsUnsignedIn 0 max_chart_entry)

-- the matches have a decimal number from 1 up to most for an option
abbrev pub ReadsOneUpTo : List Row → Text → ℕ → Type 0
ReadsOneUpTo rows id most = IsSomeAnd (one_of id rows) (IsUnsignedIn 1 most)

-- the matches of `talk` have the numbers of a thread and a space, which are 1 where there is no
-- folder
abbrev pub ReadsAsTalk : List Row → Type 0
ReadsAsTalk rows = ReadsOneUpTo rows (codes "thread") max_thread_number
    × ReadsOneUpTo rows (codes "space") max_space
    × (IsNone (first_of (codes "dir") rows) → (number_in rows (codes "thread") ≡ Some 1)
    × (number_in rows (codes "space") ≡ Some 1))

-- the matches have the two files of `migrate`
abbrev pub ReadsAsMigrate : List Row → Type 0
ReadsAsMigrate rows = IsSome (first_of (codes "old") rows) × IsSome (first_of (codes "new") rows)

-- the matches have a word
abbrev pub ReadsAsWord : List Row → Type 0
ReadsAsWord rows = IsSome (first_of (codes "word") rows)

-- the subcommand of this name takes one word
abbrev pub TakesWord : Text → Type 0
TakesWord name = (name ≡ codes "explain") ⊎ (name ≡ codes "tag") ⊎ (name ≡ codes "period")
    ⊎ (name ≡ codes "rotate")

-- the matches of the subcommand of this name have what it needs
unfoldable pub Reads : Text → List Row → Type 0
Reads name rows = ((name ≡ codes "run") × ReadsAsRun rows)
    ⊎ (name ≡ codes "wire")
    ⊎ (TakesFiles name × ReadsAsFiles rows)
    ⊎ ((name ≡ codes "chart") × ReadsAsChart rows)
    ⊎ ((name ≡ codes "state") × ReadsAsState rows)
    ⊎ ((name ≡ codes "script") × ReadsAsFiles rows)
    ⊎ ((name ≡ codes "count") × ReadsAsFiles rows)
    ⊎ ((name ≡ codes "follow") × ReadsAsFiles rows)
    ⊎ ((name ≡ codes "talk") × ReadsAsTalk rows)
    ⊎ ((name ≡ codes "migrate") × ReadsAsMigrate rows)
    ⊎ (TakesWord name × ReadsAsWord rows)

-- the options are those that the words, or the defaults, give the subcommand that they name
abbrev pub IsAskedBy : List Text → ShellOptions → Type 0
IsAskedBy words options =
    IsSomeAnd (subcommand_of shell_app words) (λ named. HasMatchesIn named.0 named.1 options)

-- the command takes the words, which name a subcommand with what it needs
abbrev pub IsTaken : List Text → Type 0
IsTaken words = (takes shell_app words ≡ true)
    × IsSomeAnd (subcommand_of shell_app words) (λ named. Reads named.0 named.1)

-- the words ask for the version and for nothing else
abbrev pub AsksVersion : List Text → Type 0
AsksVersion words = (program : Text) × (words ≡ program ∷ codes "--version" ∷ [])

-- the version is told, or memory ran out
abbrev pub TellsVersion : Error → Type 0
TellsVersion error = (kind_of error ≡ DisplayVersion) ⊎ (kind_of error ≡ OutOfMemory)
