-- The lines of a trace, put one after the other.
use Rattle.std.proofs.Common.{◌≡◌, ℕ, ◌+◌, ◌<◌, Option, List, [], ◌∷◌, ◌++◌, false, length, take, drop, get_or, inl, inr, Result, Ok, Err, OnErr, refl, sym, ap, subst, ◌∙◌, append_assoc, append-nil, length-append, take-append-drop, arith}
use Rattle.std.proofs.lemmas.List.{take_more}
use lib.Seq.{take-append_seam}
use Rattle.std.proofs.lemmas.Grind.{flat_map-append}
use Rattle.std.specs.Io.KnownBytes.{Appends, Keeps}
use Rattle.std.proofs.KnownBytes.{Appends-nil, Appends-trans, Keeps-refl}
use Rattle.ipc_base.specs.Ports.{AppendsFront}
use Rattle.ipc_base.proofs.Fronts.{none_is_front, whole_is_front}
use Rattle.ipc_history.specs.declared.entry.Entry.{Entry}
use Rattle.ipc_lines.specs.Lines.{entry_text}
use Rattle.ipc_trace.specs.Putting.{FailsInLine, FailsToHandOn, IsNoDevice, PutsLine, TraceParts}
use Rattle.ipc_trace.specs.declared.fault.PutFault.{PutFault}
use Rattle.ipc_trace.specs.declared.fault.PutFault.TheVariants as put
use Rattle.ipc_trace.specs.Traces.{ended, trace_text}

pub puts_none : (a : TraceParts) → a.is_stopped ≡ false → PutsLine a a []
puts_none a going = record { was_going = going; appended = Appends-nil a.written; failures = refl; goes_on = going }

pub puts_more : (a b c : TraceParts) (done line : List ℕ) → PutsLine a b done → PutsLine b c line → PutsLine a c (done ++ line)
puts_more a b c done line before more = record {
  was_going = before.was_going;
  appended = Appends-trans a.written b.written c.written done line before.appended more.appended;
  failures = more.failures ∙ before.failures;
  goes_on = more.goes_on;
}

-- bytes that begin others are a front of them
pub begin_is_front : (before after : Option (List ℕ)) (text front back : List ℕ) → text ≡ front ++ back → Appends before after front → AppendsFront before after text
begin_is_front before after text front back is appends =
    subst (AppendsFront before after) (sym is) (length front, omega (arith, length-append front back), rw (take-append_seam front back) appends)

-- a line was put in part behind others
pub front_in_line : (a b c : TraceParts) (done line rest all : List ℕ) → PutsLine a b done → all ≡ (done ++ line) ++ rest → FailsInLine b c line → AppendsFront a.written c.written all
front_in_line a b c done line rest all before is fails =
    let n = fails.appended.0 in
    let cut : all ≡ (done ++ take n line) ++ (drop n line ++ rest) =
    is ∙ ap (λ l. (done ++ l) ++ rest) (sym (take-append-drop n line)) ∙ ap (λ l. l ++ rest) (sym (append_assoc done (take n line) (drop n line)))
    ∙ append_assoc (done ++ take n line) (drop n line) rest in
    begin_is_front a.written c.written all (done ++ take n line) (drop n line ++ rest) cut
    (Appends-trans a.written b.written c.written done (take n line) before.appended fails.appended.2)

-- nothing was put behind others
pub front_as_before : (a b c : TraceParts) (done rest all : List ℕ) → PutsLine a b done → all ≡ done ++ rest → c ≡ b → AppendsFront a.written c.written all
front_as_before a b c done rest all before is same =
    begin_is_front a.written c.written all done rest is (subst (λ (t : TraceParts). Appends a.written t.written done) (sym same) before.appended)

-- the lines of entries, cut behind some of them
pub lines_cut : (entries : List Entry) (k : ℕ) → trace_text entries ≡ trace_text (take k entries) ++ trace_text (drop k entries)
lines_cut entries k =
    ap trace_text (sym (take-append-drop k entries)) ∙ flat_map-append (λ e. ended (entry_text e)) (take k entries) (drop k entries)

-- the line of one entry more
pub one_line_more : (entries : List Entry) (k : ℕ) (entry : Entry) → k < length entries → get_or entries k entry ≡ entry
    → trace_text (take (k + 1) entries) ≡ trace_text (take k entries) ++ ended (entry_text entry)
one_line_more entries k entry within is =
    let last : trace_text (entry ∷ []) ≡ ended (entry_text entry) = append-nil (ended (entry_text entry)) in
    ap trace_text (take_more entries k entry within ∙ ap (λ e. take k entries ++ e ∷ []) is)
    ∙ flat_map-append (λ e. ended (entry_text e)) (take k entries) (entry ∷ []) ∙ ap (λ (t : List ℕ). trace_text (take k entries) ++ t) last

-- the line of an entry was not put behind those of the entries before it
pub front_of_lines : (a b c : TraceParts) (entries : List Entry) (k : ℕ) (entry : Entry) (result : Result (Unit {0}) PutFault) (wrong : PutFault)
    → PutsLine a b (trace_text (take k entries)) → k < length entries → entry ≡ get_or entries k entry → result ≡ Err wrong
    → (result ≡ Err put.DeviceFailed → FailsInLine b c (ended (entry_text entry))) → (IsNoDevice result → c ≡ b) → AppendsFront a.written c.written (trace_text entries)
front_of_lines a b c entries k entry result put.DeviceFailed before within item failed fails same =
    let line = ended (entry_text entry) in
    let rest = trace_text (drop (k + 1) entries) in
    let cut : trace_text entries ≡ (trace_text (take k entries) ++ line) ++ rest =
    lines_cut entries (k + 1) ∙ ap (λ (t : List ℕ). t ++ rest) (one_line_more entries k entry within (sym item)) in
    front_in_line a b c (trace_text (take k entries)) line rest (trace_text entries) before cut (fails failed)
front_of_lines a b c entries k entry result put.Stopped before within item failed fails same =
    front_as_before a b c (trace_text (take k entries)) (trace_text (drop k entries)) (trace_text entries) before (lines_cut entries k) (same (inl failed))
front_of_lines a b c entries k entry result put.NoMemory before within item failed fails same =
    front_as_before a b c (trace_text (take k entries)) (trace_text (drop k entries)) (trace_text entries) before (lines_cut entries k) (same (inr failed))

pub on_err : {X E P : Type 0} (result : Result X E) → P → OnErr result P
on_err (Ok x) holds = tt
on_err (Err e) holds = holds

-- lines behind a first one
pub front_behind : (a b c : TraceParts) (first lines : List ℕ) → PutsLine a b first → AppendsFront b.written c.written lines → AppendsFront a.written c.written (first ++ lines)
front_behind a b c first lines before (n, within, appended) =
    let front = take n lines in
    let back = drop n lines in
    begin_is_front a.written c.written (first ++ lines) (first ++ front) back
    (ap (λ (t : List ℕ). first ++ t) (sym (take-append-drop n lines)) ∙ sym (append_assoc first front back))
    (Appends-trans a.written b.written c.written first front before.appended appended)

-- all lines stand, though they are not handed on
pub front_of_all : (a b c : TraceParts) (lines : List ℕ) → PutsLine a b lines → Keeps b.written c.written → AppendsFront a.written c.written lines
front_of_all a b c lines before same = whole_is_front a.written b.written c.written lines before.appended same

-- the first line was not put
pub front_of_first : (a b : TraceParts) (first lines : List ℕ) (result : Result (Unit {0}) PutFault) (wrong : PutFault) → result ≡ Err wrong
    → (result ≡ Err put.DeviceFailed → FailsInLine a b first) → (IsNoDevice result → b ≡ a) → AppendsFront a.written b.written (first ++ lines)
front_of_first a b first lines result put.DeviceFailed failed fails same =
    let n = (fails failed).appended.0 in
    let cut : first ++ lines ≡ take n first ++ (drop n first ++ lines) =
    ap (λ (t : List ℕ). t ++ lines) (sym (take-append-drop n first)) ∙ append_assoc (take n first) (drop n first) lines in
    begin_is_front a.written b.written (first ++ lines) (take n first) (drop n first ++ lines) cut (fails failed).appended.2
front_of_first a b first lines result put.Stopped failed fails same =
    subst (λ (t : TraceParts). AppendsFront a.written t.written (first ++ lines)) (sym (same (inl failed))) (none_is_front a.written (first ++ lines))
front_of_first a b first lines result put.NoMemory failed fails same =
    subst (λ (t : TraceParts). AppendsFront a.written t.written (first ++ lines)) (sym (same (inr failed))) (none_is_front a.written (first ++ lines))

-- handing on failed
pub kept_where_flush_fails : (b c : TraceParts) (result : Result (Unit {0}) PutFault) (wrong : PutFault) → result ≡ Err wrong
    → (result ≡ Err put.DeviceFailed → FailsToHandOn b c) → (IsNoDevice result → c ≡ b) → Keeps b.written c.written
kept_where_flush_fails b c result put.DeviceFailed failed fails same = (fails failed).same_bytes
kept_where_flush_fails b c result put.Stopped failed fails same = subst (λ (t : TraceParts). Keeps b.written t.written) (sym (same (inl failed))) (Keeps-refl b.written)
kept_where_flush_fails b c result put.NoMemory failed fails same = subst (λ (t : TraceParts). Keeps b.written t.written) (sym (same (inr failed))) (Keeps-refl b.written)

pub front_where_flush_fails : (a b c : TraceParts) (lines : List ℕ) (result : Result (Unit {0}) PutFault) → PutsLine a b lines
    → (result ≡ Err put.DeviceFailed → FailsToHandOn b c) → (IsNoDevice result → c ≡ b) → OnErr result (AppendsFront a.written c.written lines)
front_where_flush_fails a b c lines (Ok x) before fails same = tt
front_where_flush_fails a b c lines (Err wrong) before fails same =
    front_of_all a b c lines before (kept_where_flush_fails b c (Err wrong) wrong refl fails same)
