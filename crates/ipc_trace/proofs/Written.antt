-- The text of a part, as it is written piece by piece.
use Rattle.std.proofs.Common.{◌≡◌, ℕ, zero, suc, ◌+◌, ◌<◌, List, [], ◌∷◌, ◌++◌, codes, length, take, drop, get_or, min, refl, sym, ap, ◌∙◌, arith, append_assoc, append-nil, take-append-drop}
use Rattle.std.specs.Fmt.{decimal}
use Rattle.std.proofs.lemmas.List.{length-take-le, map-append, take_more}
use Rattle.std.proofs.lemmas.Grind.{flat_map-append}
use Rattle.ipc_history.specs.declared.entry.Entry.{Entry}
use Rattle.ipc_lines.specs.Lines.{entry_text}
use Rattle.ipc_base.specs.Ports.{AppendsFront}
use Rattle.ipc_compact.specs.Compact.{Base}
use Rattle.std.proofs.Common.{Result, Ok, Err, OnOk, OnErr}
use Rattle.ipc_trace.specs.Putting.{PutsLine, TraceParts}
use Rattle.ipc_trace.specs.Traces.{ended, trace_text}
use Rattle.ipc_trace.proofs.Puts.{begin_is_front, front_behind, puts_more}
use Rattle.ipc_trace.specs.Lines.{calls_word, line_text, moment_word, takes_word}
use Rattle.ipc_trace.specs.Parts.{base_lines, entry_lines, lines_text, number_line, number_lines, over_lines, part_text}
use Rattle.ipc_trace.specs.PartPutting.{lines_behind}
use Rattle.ipc_trace.specs.declared.line.PartLine.{PartLine}
use Rattle.ipc_trace.specs.declared.line.PartLine.TheVariants as line
use Rattle.ipc_trace.proofs.Numbers.{numbers_append}

pub text_append : (xs ys : List PartLine) → lines_text (xs ++ ys) ≡ lines_text xs ++ lines_text ys
text_append xs ys = flat_map-append (λ one. ended (line_text one)) xs ys

entries_text : (entries : List Entry) → lines_text (entry_lines entries) ≡ trace_text entries
entries_text [] = refl
entries_text (entry ∷ entries) = ap (λ (t : List ℕ). ended (entry_text entry) ++ t) (entries_text entries)

-- the sections are the whole text
pub sections : (base : Base) (kept entries : List Entry) (text : List ℕ) → ended text ≡ lines_text (base_lines base ++ line.Kept ∷ [])
    → lines_behind text kept entries ≡ part_text (record { base = base; kept = kept; entries = entries })
sections base kept entries text is =
    let since : List ℕ = ended (codes "since") ++ trace_text entries in
    let since_is : since ≡ lines_text (line.Since ∷ entry_lines entries) = ap (λ (t : List ℕ). ended (codes "since") ++ t) (sym (entries_text entries)) in
    let rest : trace_text kept ++ since ≡ lines_text (entry_lines kept ++ line.Since ∷ entry_lines entries) =
    (λ i. sym (entries_text kept) i ++ since_is i) ∙ sym (text_append (entry_lines kept) (line.Since ∷ entry_lines entries)) in
    append_assoc (ended text) (trace_text kept) since
    ∙ (λ i. is i ++ rest i)
    ∙ sym (text_append (base_lines base ++ line.Kept ∷ []) (entry_lines kept ++ line.Since ∷ entry_lines entries))
    ∙ ap lines_text (append_assoc (base_lines base) (line.Kept ∷ []) (entry_lines kept ++ line.Since ∷ entry_lines entries))

-- one thread number more
pub numbers_one_more : (vs ds : List ℕ) (i : ℕ) → i < length vs → i < length ds
    → number_lines 0 (take (i + 1) vs) (take (i + 1) ds) ≡ number_lines 0 (take i vs) (take i ds) ++ number_line i (get_or vs i 0) (get_or ds i 0)
numbers_one_more vs ds i in_vs in_ds =
    let long : length (take i vs) ≡ i = length-take-le i vs (omega (arith, in_vs)) in
    let same : length (take i vs) ≡ length (take i ds) = long ∙ sym (length-take-le i ds (omega (arith, in_ds))) in
    let at : 0 + length (take i vs) ≡ i = omega (arith, long) in
    (λ j. number_lines 0 (take_more vs i 0 in_vs j) (take_more ds i 0 in_ds j))
    ∙ numbers_append 0 (take i vs) (take i ds) (get_or vs i 0 ∷ []) (get_or ds i 0 ∷ []) same
    ∙ ap (λ n. number_lines 0 (take i vs) (take i ds) ++ (number_line n (get_or vs i 0) (get_or ds i 0) ++ [])) at
    ∙ ap (λ (l : List PartLine). number_lines 0 (take i vs) (take i ds) ++ l) (append-nil (number_line i (get_or vs i 0) (get_or ds i 0)))

-- the numbers of which both lists say something are all that have lines
pub numbers_cut : (k : ℕ) (vs ds : List ℕ) (n : ℕ) → n ≡ min (length vs) (length ds) → number_lines k (take n vs) (take n ds) ≡ number_lines k vs ds
numbers_cut k [] ds n is = none n
  where
    none : (m : ℕ) → number_lines k (take m []) (take m ds) ≡ []
    none zero = refl
    none (suc m) = refl
numbers_cut k (v ∷ vs) [] zero is = refl
numbers_cut k (v ∷ vs) [] (suc n) is = absurd (omega (arith, is))
numbers_cut k (v ∷ vs) (d ∷ ds) zero is = absurd (omega (arith, is))
numbers_cut k (v ∷ vs) (d ∷ ds) (suc n) is = ap (λ (l : List PartLine). number_line k v d ++ l) (numbers_cut (k + 1) vs ds n (omega (arith, is)))

-- one call more
pub overs_one_more : (over : List ℕ) (i : ℕ) → i < length over
    → lines_text (over_lines (take (i + 1) over)) ≡ lines_text (over_lines (take i over)) ++ lines_text (line.Over (get_or over i 0) ∷ [])
overs_one_more over i within =
    ap (λ l. lines_text (over_lines l)) (take_more over i 0 within)
    ∙ ap lines_text (map-append (λ n. line.Over n) (take i over) (get_or over i 0 ∷ []))
    ∙ text_append (over_lines (take i over)) (line.Over (get_or over i 0) ∷ [])

-- what stands behind what was written before
pub numbers_written : (start mid new : List ℕ) (vs ds : List ℕ) (i : ℕ) → i < length vs → i < length ds
    → mid ≡ start ++ lines_text (number_lines 0 (take i vs) (take i ds)) → new ≡ mid ++ lines_text (number_line i (get_or vs i 0) (get_or ds i 0))
    → new ≡ start ++ lines_text (number_lines 0 (take (i + 1) vs) (take (i + 1) ds))
numbers_written start mid new vs ds i in_vs in_ds before more =
    let one = lines_text (number_line i (get_or vs i 0) (get_or ds i 0)) in
    let done = lines_text (number_lines 0 (take i vs) (take i ds)) in
    more ∙ ap (λ (t : List ℕ). t ++ one) before ∙ append_assoc start done one
    ∙ ap (λ (t : List ℕ). start ++ t) (sym (text_append (number_lines 0 (take i vs) (take i ds)) (number_line i (get_or vs i 0) (get_or ds i 0))) ∙ ap lines_text (sym (numbers_one_more vs ds i in_vs in_ds)))

pub overs_written : (start mid new : List ℕ) (over : List ℕ) (i : ℕ) → i < length over
    → mid ≡ start ++ lines_text (over_lines (take i over)) → new ≡ mid ++ lines_text (line.Over (get_or over i 0) ∷ [])
    → new ≡ start ++ lines_text (over_lines (take (i + 1) over))
overs_written start mid new over i within before more =
    let one = lines_text (line.Over (get_or over i 0) ∷ []) in
    let done = lines_text (over_lines (take i over)) in
    more ∙ ap (λ (t : List ℕ). t ++ one) before ∙ append_assoc start done one ∙ ap (λ (t : List ℕ). start ++ t) (sym (overs_one_more over i within))

regroup : (s v m n t : List ℕ) → (((s ++ v) ++ m) ++ n) ++ t ≡ s ++ (v ++ (m ++ (n ++ (t ++ []))))
regroup s v m n t = simp (append_assoc, append-nil)

-- the first lines
pub counts_written : (start first second third new : List ℕ) (moment calls takes : ℕ) → first ≡ start ++ ended (codes "l4part 1")
    → second ≡ first ++ ended (moment_word ++ decimal moment) → third ≡ second ++ ended (calls_word ++ decimal calls)
    → new ≡ third ++ ended (takes_word ++ decimal takes)
    → new ≡ start ++ lines_text (line.Version ∷ line.Moment moment ∷ line.Calls calls ∷ line.Takes takes ∷ [])
counts_written start first second third new moment calls takes one two three four =
    four ∙ ap (λ (t : List ℕ). t ++ ended (takes_word ++ decimal takes))
    (three ∙ ap (λ (t : List ℕ). t ++ ended (calls_word ++ decimal calls)) (two ∙ ap (λ (t : List ℕ). t ++ ended (moment_word ++ decimal moment)) one))
    ∙ regroup start (ended (codes "l4part 1")) (ended (moment_word ++ decimal moment)) (ended (calls_word ++ decimal calls)) (ended (takes_word ++ decimal takes))

-- the whole text of a base
pub base_written : (base : Base) (counts numbers overs all : List ℕ)
    → counts ≡ lines_text (line.Version ∷ line.Moment base.moment ∷ line.Calls base.calls ∷ line.Takes base.takes ∷ [])
    → numbers ≡ counts ++ lines_text (number_lines 0 base.versions base.dropped) → overs ≡ numbers ++ lines_text (over_lines base.over)
    → all ≡ overs ++ codes "kept" → ended all ≡ lines_text (base_lines base ++ line.Kept ∷ [])
base_written base counts numbers overs all is_counts is_numbers is_overs is_all =
    let top = line.Version ∷ line.Moment base.moment ∷ line.Calls base.calls ∷ line.Takes base.takes ∷ [] in
    let n = number_lines 0 base.versions base.dropped in
    let o = over_lines base.over in
    let body : overs ≡ lines_text (top ++ (n ++ o)) =
    is_overs ∙ ap (λ (t : List ℕ). t ++ lines_text o) (is_numbers ∙ ap (λ (t : List ℕ). t ++ lines_text n) is_counts)
    ∙ append_assoc (lines_text top) (lines_text n) (lines_text o) ∙ ap (λ (t : List ℕ). lines_text top ++ t) (sym (text_append n o)) ∙ sym (text_append top (n ++ o)) in
    ap ended is_all ∙ append_assoc overs (codes "kept") (10 ∷ []) ∙ ap (λ (t : List ℕ). t ++ ended (codes "kept")) body
    ∙ ap (λ (t : List ℕ). lines_text (top ++ (n ++ o)) ++ t) (sym (append-nil (ended (codes "kept")))) ∙ sym (text_append (base_lines base) (line.Kept ∷ []))

-- what was put in part stands before what was not put
pub front_before : (a b : TraceParts) (first rest : List ℕ) → AppendsFront a.written b.written first → AppendsFront a.written b.written (first ++ rest)
front_before a b first rest (n, within, appended) =
    let front = take n first in
    let back = drop n first in
    begin_is_front a.written b.written (first ++ rest) front (back ++ rest)
    (ap (λ (t : List ℕ). t ++ rest) (sym (take-append-drop n first)) ∙ append_assoc front back rest) appended

-- and behind what was put whole
pub errs_behind : {X E : Type 0} (a b c : TraceParts) (first lines : List ℕ) (result : Result X E) → PutsLine a b first → OnErr result (AppendsFront b.written c.written lines) → OnErr result (AppendsFront a.written c.written (first ++ lines))
errs_behind a b c first lines (Ok x) before front = tt
errs_behind a b c first lines (Err e) before front = front_behind a b c first lines before front

pub oks_behind : {X E : Type 0} (a b c : TraceParts) (first lines : List ℕ) (result : Result X E) → PutsLine a b first → OnOk result (PutsLine b c lines) → OnOk result (PutsLine a c (first ++ lines))
oks_behind a b c first lines (Ok x) before more = puts_more a b c first lines before more
oks_behind a b c first lines (Err e) before more = tt
