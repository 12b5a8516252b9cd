-- The lines of entries, put one after the other.
use Rattle.std.proofs.Common.{◌≡◌, ℕ, ◌<◌, ◌+◌, Option, List, [], ◌++◌, length, take, get_or, sym, subst}
use Rattle.std.specs.Io.KnownBytes.{Appends, Keeps}
use Rattle.std.proofs.KnownBytes.{Appends-kept, Appends-nil, Appends-trans}
use Rattle.ipc_history.specs.declared.entry.Entry.{Entry}
use Rattle.ipc_lines.specs.Lines.{entry_text}
use Rattle.ipc_trace.proofs.Puts.{one_line_more}
use Rattle.ipc_trace.specs.Traces.{ended, trace_text}

pub appends_none : (a : Option (List ℕ)) → Appends a a (trace_text [])
appends_none a = Appends-nil a

pub appends_line : (a b c : Option (List ℕ)) (entries : List Entry) (k : ℕ) (entry : Entry) → Appends a b (trace_text (take k entries))
    → Appends b c (ended (entry_text entry)) → k < length entries → get_or entries k entry ≡ entry → Appends a c (trace_text (take (k + 1) entries))
appends_line a b c entries k entry before more within is =
    subst (Appends a c) (sym (one_line_more entries k entry within is))
    (Appends-trans a b c (trace_text (take k entries)) (ended (entry_text entry)) before more)

pub appends_kept : (a b c : Option (List ℕ)) (bytes : List ℕ) → Appends a b bytes → Keeps b c → Appends a c bytes
appends_kept a b c bytes appends keeps = Appends-kept a b c bytes appends keeps
