-- Our choice (docs/FORMATS.md): what is said of a trace that is looked at.
use Rattle.std.specs.Prelude.{◌≡◌, ℕ, ◌+◌, List, length, take, Bool, true, false, Option, IfSome, ⊤}
use Rattle.std.specs.Io.KnownBytes.{Appends}
use Rattle.ipc_history.specs.Legal.{Legal}
use Rattle.ipc_history.specs.declared.entry.Entry.{Entry}
use Rattle.ipc_trace.specs.Traces.{HasUnknownVersion}
use Rattle.ipc_trace.specs.Versions.{header_lines}
use Rattle.ipc_trace.specs.declared.version.TraceVersion.{TraceVersion}
use Rattle.ipc_shell.specs.Checking.{HasLines, HasBadLine}
use Rattle.ipc_shell.specs.Commands.{script_text}
use Rattle.ipc_shell.specs.Script.{commands_of}
use Rattle.l4sh_look.specs.Events.{events_in}
use Rattle.l4sh_look.specs.Tallies.{IsTally}
use Rattle.l4sh_look.specs.Texts.{EndsWithAll}
use Rattle.l4sh_look.specs.declared.tally.Tally.{Tally}
use Rattle.l4sh_state.specs.States.{TellsMoment}
use Rattle.l4sh_look.specs.declared.exit.Exit.{Exit}
use Rattle.l4sh_look.specs.declared.exit.Exit.TheVariants.{Done, BadLine, NoMemory, DeviceFailed, BadThreads, NoChart, UnknownVersion, IllegalLine, Torn}
use Rattle.l4sh_look.specs.declared.looking.Look.{Look}
use Rattle.l4sh_look.specs.declared.looking.Look.TheVariants.{Script, StateAt, Counts}

-- the entries before the line of this number, counted from 1, are so many and legal, those up to it
-- are not
pub record IsFaultLine (version : TraceVersion) (entries : List Entry) (number place : ℕ) : Type 0 where
  pub number_is : number ≡ header_lines version + place + 1
  pub before : Legal (take place entries)
  pub fault : Legal (take (place + 1) entries) → ⊥

-- what may be said of entries, whose lines are of a version, by how a command ends
abbrev pub Saying : Type 1
Saying = TraceVersion → List Entry → Exit → Type 0

-- what is said of entries: that all is well only of a legal history, and a line only where it is at
-- fault
abbrev pub IsSaidOf : TraceVersion → List Entry → Exit → Type 0
IsSaidOf version entries Done = Legal entries
IsSaidOf version entries (IllegalLine number place) = IsFaultLine version entries number place
IsSaidOf version entries NoMemory = ⊤
IsSaidOf version entries DeviceFailed = ⊤
IsSaidOf version entries other = ⊥

-- this may be said of each legal history
abbrev pub MayEnd : Saying → Exit → Type 0
MayEnd IsSaid exit = (version : TraceVersion) (entries : List Entry) → Legal entries
    → IsSaid version entries exit

-- of the entries of the whole lines some are shown, of which this is said; and whether a torn line
-- stands behind them
abbrev pub SaysOfTrace : (List Entry → List Entry) → Saying → List ℕ → Bool → Exit → Type 0
SaysOfTrace shown IsSaid bytes is_torn exit = (version : TraceVersion) × ((entries : List Entry)
    × HasLines bytes version entries is_torn × IsSaid version (shown entries) exit)

-- the last whole line before a torn one has this number, and what is shown is legal
abbrev pub ShowsTorn : (List Entry → List Entry) → List ℕ → ℕ → Type 0
ShowsTorn shown bytes number = (version : TraceVersion) × ((entries : List Entry)
    × HasLines bytes version entries true × (number ≡ header_lines version + length entries)
    × Legal (shown entries))

-- how what was told of the whole lines ends where a torn line stands behind them
abbrev pub torn_end : TraceVersion → List Entry → Exit → Exit
torn_end version entries Done = Torn (header_lines version + length entries)
torn_end version entries other = other

-- how a command ends that shows such entries of these bytes, and says so of them
abbrev pub EndsByBytes : (List Entry → List Entry) → Saying → List ℕ → Exit → Type 0
EndsByBytes shown IsSaid bytes Done = SaysOfTrace shown IsSaid bytes false Done
EndsByBytes shown IsSaid bytes (Torn number) = ShowsTorn shown bytes number
EndsByBytes shown IsSaid bytes (NoChart fault) =
    (is_torn : Bool) × SaysOfTrace shown IsSaid bytes is_torn (NoChart fault)
EndsByBytes shown IsSaid bytes UnknownVersion = HasUnknownVersion bytes
EndsByBytes shown IsSaid bytes (IllegalLine number place) =
    (is_torn : Bool) × SaysOfTrace shown IsSaid bytes is_torn (IllegalLine number place)
EndsByBytes shown IsSaid bytes (BadLine number) = HasBadLine bytes number
EndsByBytes shown IsSaid bytes NoMemory = ⊤
EndsByBytes shown IsSaid bytes DeviceFailed = ⊤
EndsByBytes shown IsSaid bytes other = ⊥

-- the entries of which something is told
abbrev pub shown_of : Look → List Entry → List Entry
shown_of Script entries = entries
shown_of (StateAt count) entries = take count entries
shown_of (Counts is_json) entries = entries

-- how a look ends, where the reader tells its bytes
abbrev pub LooksAt : Look → Option (List ℕ) → Exit → Type 0
LooksAt look bytes exit = IfSome bytes (λ bytes. EndsByBytes (shown_of look) IsSaidOf bytes exit)

-- counts in words end with the line of all that the entries add; of JSON nothing is said
abbrev pub EndsWithCounts : Bool → Tally → List ℕ → Type 0
EndsWithCounts true all text = ⊤
EndsWithCounts false all text = EndsWithAll all text

pub record TellsCounts (is_json : Bool) (entries : List Entry) (text : List ℕ) : Type 0 where
  pub all : Tally
  pub is_tally : IsTally (events_in entries) all
  pub ends : EndsWithCounts is_json all text

-- what is told of entries: the commands whose history they are, a state behind its moment, counts
abbrev pub IsShown : Look → List Entry → List ℕ → Type 0
IsShown Script entries text = text ≡ script_text (commands_of entries)
IsShown (StateAt count) entries text = TellsMoment text
IsShown (Counts is_json) entries text = TellsCounts is_json entries text

-- this is printed, and nothing else
pub record Prints (look : Look) (entries : List Entry) (old new : Option (List ℕ)) : Type 0 where
  pub text : List ℕ
  pub appends : Appends old new text
  pub is_shown : IsShown look entries text

-- what is told of the entries of the whole lines of these bytes is printed
pub record PrintsBytes (look : Look) (bytes : List ℕ) (old new : Option (List ℕ)) : Type 0 where
  pub version : TraceVersion
  pub entries : List Entry
  pub is_torn : Bool
  pub lines : HasLines bytes version entries is_torn
  pub prints : Prints look (shown_of look entries) old new

-- where the reader tells its bytes
abbrev pub PrintsOf : Look → Option (List ℕ) → Option (List ℕ) → Option (List ℕ) → Type 0
PrintsOf look bytes old new = IfSome bytes (λ bytes. PrintsBytes look bytes old new)

-- what ends so has printed
abbrev pub IsPrinted : Exit → Type 0
IsPrinted Done = ⊤
IsPrinted (Torn number) = ⊤
IsPrinted other = ⊥

-- what a chart's end says of the entries up to the last that it may show: that nothing is drawn of
-- them only of a legal history, and else the same
abbrev pub IsDrawnOf : TraceVersion → List Entry → Exit → Type 0
IsDrawnOf version entries (NoChart fault) = Legal entries
IsDrawnOf version entries exit = IsSaidOf version entries exit

-- how a chart of these bytes ends that shows no entry behind the last
abbrev pub ChartsBytes : ℕ → List ℕ → Exit → Type 0
ChartsBytes last bytes BadThreads = ⊤
ChartsBytes last bytes exit = EndsByBytes (take last) IsDrawnOf bytes exit

-- where the reader tells its bytes
abbrev pub ChartsTrace : ℕ → Option (List ℕ) → Exit → Type 0
ChartsTrace last bytes exit = IfSome bytes (λ bytes. ChartsBytes last bytes exit)

-- what ends so has printed nothing
abbrev pub IsSilent : Exit → Type 0
IsSilent Done = ⊥
IsSilent (Torn number) = ⊥
IsSilent DeviceFailed = ⊥
IsSilent other = ⊤
