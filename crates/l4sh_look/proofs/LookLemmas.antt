-- From a trace that is read to what is said of it.
use Rattle.std.proofs.Common.{◌≡◌, ◌≢◌, ℕ, Bool, true, false, Option, Some, None, Result, Ok, Err, IfErr, IfOk, IfSome, List, ◌++◌, refl, sym, ap, append_assoc, codes, take, ◌∙◌}
use Rattle.std.specs.Io.KnownBytes.{Appends}
use Rattle.ipc_history.specs.declared.entry.Entry.{Entry}
use Rattle.ipc_trace.specs.declared.version.TraceVersion.{TraceVersion}
use Rattle.ipc_shell.specs.Checking.{HasLines}
use Rattle.l4sh_look.specs.Events.{events_in}
use Rattle.l4sh_look.specs.Tallies.{IsTally}
use Rattle.l4sh_look.specs.declared.tally.Tally.{Tally}
use Rattle.l4sh_state.specs.States.{TellsMoment}
use Rattle.l4sh_look.specs.Looking.{ChartsTrace, EndsWithCounts, IsDrawnOf, IsPrinted, IsSaidOf, IsShown, IsSilent, LooksAt, Prints, PrintsOf, TellsCounts, shown_of, torn_end}
use Rattle.l4sh_look.specs.declared.looking.Look.{Look}
use Rattle.l4sh_look.specs.declared.exit.Exit.{Exit}
use Rattle.l4sh_look.specs.declared.exit.Exit.TheVariants.{Done, BadLine, NoMemory, DeviceFailed, Illegal, BadThreads, NoChart, BadWord, UnknownVersion, IllegalLine, Torn}

-- this was said of the lines, which are all whole
pub looked : (look : Look) (bytes : Option (List ℕ)) (version : TraceVersion) (entries : List Entry) (exit : Exit)
    → IfSome bytes (λ bytes. HasLines bytes version entries false) → IsSaidOf version (shown_of look entries) exit → LooksAt look bytes exit
looked look None version entries exit lines said = tt
looked look (Some bytes) version entries Done lines said = (version, (entries, lines, said))
looked look (Some bytes) version entries UnknownVersion lines said = absurd said
looked look (Some bytes) version entries (IllegalLine number place) lines said = (false, (version, (entries, lines, said)))
looked look (Some bytes) version entries (BadLine number) lines said = absurd said
looked look (Some bytes) version entries NoMemory lines said = tt
looked look (Some bytes) version entries DeviceFailed lines said = tt
looked look (Some bytes) version entries Illegal lines said = absurd said
looked look (Some bytes) version entries BadThreads lines said = absurd said
looked look (Some bytes) version entries (NoChart fault) lines said = absurd said
looked look (Some bytes) version entries BadWord lines said = absurd said
looked look (Some bytes) version entries (Torn number) lines said = absurd said

-- this was said of the whole lines, and a torn one stands behind them
pub looked_torn : (look : Look) (bytes : Option (List ℕ)) (version : TraceVersion) (entries : List Entry) (exit : Exit)
    → IfSome bytes (λ bytes. HasLines bytes version entries true) → IsSaidOf version (shown_of look entries) exit
    → LooksAt look bytes (torn_end version entries exit)
looked_torn look None version entries exit lines said = tt
looked_torn look (Some bytes) version entries Done lines said = (version, (entries, lines, refl, said))
looked_torn look (Some bytes) version entries UnknownVersion lines said = absurd said
looked_torn look (Some bytes) version entries (IllegalLine number place) lines said = (true, (version, (entries, lines, said)))
looked_torn look (Some bytes) version entries (BadLine number) lines said = absurd said
looked_torn look (Some bytes) version entries NoMemory lines said = tt
looked_torn look (Some bytes) version entries DeviceFailed lines said = tt
looked_torn look (Some bytes) version entries Illegal lines said = absurd said
looked_torn look (Some bytes) version entries BadThreads lines said = absurd said
looked_torn look (Some bytes) version entries (NoChart fault) lines said = absurd said
looked_torn look (Some bytes) version entries BadWord lines said = absurd said
looked_torn look (Some bytes) version entries (Torn number) lines said = absurd said

-- what is told of the lines was printed
pub printed : (look : Look) (bytes : Option (List ℕ)) (version : TraceVersion) (entries : List Entry) (is_torn : Bool) (old new : Option (List ℕ))
    → IfSome bytes (λ bytes. HasLines bytes version entries is_torn) → Prints look (shown_of look entries) old new → PrintsOf look bytes old new
printed look None version entries is_torn old new lines prints = tt
printed look (Some bytes) version entries is_torn old new lines prints =
    record { version = version; entries = entries; is_torn = is_torn; lines = lines; prints = prints }

differs : Done ≡ NoMemory → ⊥
differs e = cc

-- a text that was made is printed, and without one nothing is
pub prints_made : {X E : Type 0} (bytes : X → List ℕ) (look : Look) (entries : List Entry) (text : Result X E) (exit : Exit) (old new : Option (List ℕ))
    → IfOk text (λ text. exit ≡ Done → Appends old new (bytes text)) → IfErr text (λ lost. exit ≡ NoMemory)
    → IfOk text (λ text. IsShown look entries (bytes text)) → exit ≡ Done → Prints look entries old new
prints_made bytes look entries (Ok text) exit old new whole lost shown done = record { text = bytes text; appends = whole done; is_shown = shown }
prints_made bytes look entries (Err e) exit old new whole lost shown done = absurd (differs (sym done ∙ lost))

-- counts that were made end with those of the entries
pub counts_made : {X E : Type 0} (bytes : X → List ℕ) (is_json : Bool) (entries : List Entry) (all : Tally) (text : Result X E)
    → IsTally (events_in entries) all → IfOk text (λ text. EndsWithCounts is_json all (bytes text)) → IfOk text (λ text. TellsCounts is_json entries (bytes text))
counts_made bytes is_json entries all (Ok text) tally ends = record { all = all; is_tally = tally; ends = ends }
counts_made bytes is_json entries all (Err e) tally ends = tt

-- a text that tells its moment first still does with more behind it
pub tells_on : (old new more : List ℕ) → new ≡ old ++ more → TellsMoment old → TellsMoment new
tells_on old new more is told =
    (told.0 ++ more, is ∙ (ap (λ (l : List ℕ). l ++ more) told.1 ∙ append_assoc (codes "moment ") told.0 more))

-- what ends as printed is done
pub printed_whole : (version : TraceVersion) (entries : List Entry) (exit : Exit) (P : Type 0) → IsSaidOf version entries exit
    → (exit ≡ Done → P) → IsPrinted exit → P
printed_whole version entries Done P said done is = done refl
printed_whole version entries (Torn number) P said done is = absurd said
printed_whole version entries UnknownVersion P said done is = absurd is
printed_whole version entries (IllegalLine number place) P said done is = absurd is
printed_whole version entries (BadLine number) P said done is = absurd is
printed_whole version entries NoMemory P said done is = absurd is
printed_whole version entries DeviceFailed P said done is = absurd is
printed_whole version entries Illegal P said done is = absurd is
printed_whole version entries BadThreads P said done is = absurd is
printed_whole version entries (NoChart fault) P said done is = absurd is
printed_whole version entries BadWord P said done is = absurd is

-- the same where a torn line stands behind the whole ones
pub printed_torn : (version : TraceVersion) (lines entries : List Entry) (exit : Exit) (P : Type 0) → IsSaidOf version entries exit
    → (exit ≡ Done → P) → IsPrinted (torn_end version lines exit) → P
printed_torn version lines entries Done P said done is = done refl
printed_torn version lines entries (Torn number) P said done is = absurd said
printed_torn version lines entries UnknownVersion P said done is = absurd is
printed_torn version lines entries (IllegalLine number place) P said done is = absurd is
printed_torn version lines entries (BadLine number) P said done is = absurd is
printed_torn version lines entries NoMemory P said done is = absurd is
printed_torn version lines entries DeviceFailed P said done is = absurd is
printed_torn version lines entries Illegal P said done is = absurd is
printed_torn version lines entries BadThreads P said done is = absurd is
printed_torn version lines entries (NoChart fault) P said done is = absurd is
printed_torn version lines entries BadWord P said done is = absurd is

-- a chart of the lines, which are all whole, ended so
pub drawn : (last : ℕ) (bytes : Option (List ℕ)) (version : TraceVersion) (entries : List Entry) (exit : Exit)
    → IfSome bytes (λ bytes. HasLines bytes version entries false) → IsDrawnOf version (take last entries) exit → ChartsTrace last bytes exit
drawn last None version entries exit lines said = tt
drawn last (Some bytes) version entries Done lines said = (version, (entries, lines, said))
drawn last (Some bytes) version entries (NoChart fault) lines said = (false, (version, (entries, lines, said)))
drawn last (Some bytes) version entries UnknownVersion lines said = absurd said
drawn last (Some bytes) version entries (IllegalLine number place) lines said = (false, (version, (entries, lines, said)))
drawn last (Some bytes) version entries (BadLine number) lines said = absurd said
drawn last (Some bytes) version entries NoMemory lines said = tt
drawn last (Some bytes) version entries DeviceFailed lines said = tt
drawn last (Some bytes) version entries Illegal lines said = absurd said
drawn last (Some bytes) version entries BadThreads lines said = absurd said
drawn last (Some bytes) version entries BadWord lines said = absurd said
drawn last (Some bytes) version entries (Torn number) lines said = absurd said

-- a chart of the whole lines ended so, and a torn one stands behind them
pub drawn_torn : (last : ℕ) (bytes : Option (List ℕ)) (version : TraceVersion) (entries : List Entry) (exit : Exit)
    → IfSome bytes (λ bytes. HasLines bytes version entries true) → IsDrawnOf version (take last entries) exit
    → ChartsTrace last bytes (torn_end version entries exit)
drawn_torn last None version entries exit lines said = tt
drawn_torn last (Some bytes) version entries Done lines said = (version, (entries, lines, refl, said))
drawn_torn last (Some bytes) version entries (NoChart fault) lines said = (true, (version, (entries, lines, said)))
drawn_torn last (Some bytes) version entries UnknownVersion lines said = absurd said
drawn_torn last (Some bytes) version entries (IllegalLine number place) lines said = (true, (version, (entries, lines, said)))
drawn_torn last (Some bytes) version entries (BadLine number) lines said = absurd said
drawn_torn last (Some bytes) version entries NoMemory lines said = tt
drawn_torn last (Some bytes) version entries DeviceFailed lines said = tt
drawn_torn last (Some bytes) version entries Illegal lines said = absurd said
drawn_torn last (Some bytes) version entries BadThreads lines said = absurd said
drawn_torn last (Some bytes) version entries BadWord lines said = absurd said
drawn_torn last (Some bytes) version entries (Torn number) lines said = absurd said

-- what printed nothing of whole lines is silent
pub silent_whole : (exit : Exit) (P : Type 0) → (exit ≢ Done → exit ≢ DeviceFailed → P) → IsSilent exit → P
silent_whole Done P said silent = absurd silent
silent_whole UnknownVersion P said silent = said (λ e. cc) (λ e. cc)
silent_whole (IllegalLine number place) P said silent = said (λ e. cc) (λ e. cc)
silent_whole (BadLine number) P said silent = said (λ e. cc) (λ e. cc)
silent_whole NoMemory P said silent = said (λ e. cc) (λ e. cc)
silent_whole DeviceFailed P said silent = absurd silent
silent_whole Illegal P said silent = said (λ e. cc) (λ e. cc)
silent_whole BadThreads P said silent = said (λ e. cc) (λ e. cc)
silent_whole (NoChart fault) P said silent = said (λ e. cc) (λ e. cc)
silent_whole BadWord P said silent = said (λ e. cc) (λ e. cc)
silent_whole (Torn number) P said silent = absurd silent

-- and where a torn line stands behind them
pub silent_torn : (version : TraceVersion) (entries : List Entry) (exit : Exit) (P : Type 0)
    → (exit ≢ Done → exit ≢ DeviceFailed → P) → IsSilent (torn_end version entries exit) → P
silent_torn version entries Done P said silent = absurd silent
silent_torn version entries UnknownVersion P said silent = said (λ e. cc) (λ e. cc)
silent_torn version entries (IllegalLine number place) P said silent = said (λ e. cc) (λ e. cc)
silent_torn version entries (BadLine number) P said silent = said (λ e. cc) (λ e. cc)
silent_torn version entries NoMemory P said silent = said (λ e. cc) (λ e. cc)
silent_torn version entries DeviceFailed P said silent = absurd silent
silent_torn version entries Illegal P said silent = said (λ e. cc) (λ e. cc)
silent_torn version entries BadThreads P said silent = said (λ e. cc) (λ e. cc)
silent_torn version entries (NoChart fault) P said silent = said (λ e. cc) (λ e. cc)
silent_torn version entries BadWord P said silent = said (λ e. cc) (λ e. cc)
silent_torn version entries (Torn number) P said silent = absurd silent
