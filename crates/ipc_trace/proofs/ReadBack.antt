-- The lines of a part that can be written follow one another, and say that part.
use Rattle.std.proofs.Common.{◌≡◌, ℕ, ◌+◌, ◌≤◌, ◌<◌, Bool, true, false, IsTrue, List, [], ◌∷◌, ◌++◌, length, refl, sym, ap, subst, ◌∙◌, arith, append_assoc, append-nil, length-append}
use Rattle.std.specs.Prelude.{◌==◌, ◌&&◌, not, nat_le, nat_lt}
use Rattle.std.proofs.lemmas.Bool.{and_parts, eqb-true, le-leb, lt-ltb}
use Rattle.ipc_words.specs.Limits.{table_slots}
use Rattle.ipc_history.specs.declared.entry.Entry.{Entry}
use Rattle.ipc_compact.specs.Compact.{Base}
use Rattle.ipc_trace.specs.Parts.{IsPart, PartParts, entry_lines, lines_of, number_line, number_lines, over_lines}
use Rattle.ipc_trace.specs.PartReading.{PartsAreReadBack}
use Rattle.ipc_trace.specs.Steps.{Follow, PartSoFar, after, after_all, filled, filled_base, may_follow, no_base, nothing_read, part_in}
use Rattle.ipc_trace.specs.declared.line.PartLine.{PartLine}
use Rattle.ipc_trace.specs.declared.line.PartLine.TheVariants as line
use Rattle.ipc_trace.specs.declared.line.Stage.TheVariants as stage
use Rattle.ipc_trace.proofs.Following.{so_far}
use Rattle.ipc_trace.proofs.Numbers.{filled_already, filled_length, filled_more}

-- lines that follow lead from one stand to another
record Reads (now : PartSoFar) (lines : List PartLine) (later : PartSoFar) : Type 0 where
  follow : Follow now lines
  ends : after_all now lines ≡ later

reads_none : (now : PartSoFar) → Reads now [] now
reads_none now = record { follow = tt; ends = refl }

reads_more : (now : PartSoFar) (read : PartLine) (lines : List PartLine) (later : PartSoFar) → IsTrue (may_follow now read) → Reads (after now read) lines later
    → Reads now (read ∷ lines) later
reads_more now read lines later follows rest = record { follow = (follows, rest.follow); ends = rest.ends }

reads_append : (now mid later : PartSoFar) (lines more : List PartLine) → Reads now lines mid → Reads mid more later → Reads now (lines ++ more) later
reads_append now mid later [] more first second = subst (λ s. Reads s more later) (sym first.ends) second
reads_append now mid later (read ∷ lines) more first second =
    reads_more now read (lines ++ more) later first.follow.0
    (reads_append (after now read) mid later lines more (record { follow = first.follow.1; ends = first.ends }) second)

-- the base of which the lists are these
abbrev with_lists : Base → List ℕ → List ℕ → Base
with_lists base versions dropped = record base { versions = versions; dropped = dropped }

-- the lines of thread numbers were read: what is filled up to a place is what was filled, and those
-- numbers
record NumbersRead (base : Base) (vs ds : List ℕ) (place : ℕ) (more_vs more_ds : List ℕ) : Type 0 where
  versions : List ℕ
  dropped : List ℕ
  reads : Reads (so_far stage.Numbers (with_lists base vs ds) [] []) (number_lines place more_vs more_ds) (so_far stage.Numbers (with_lists base versions dropped) [] [])
  same : length versions ≡ length dropped
  within : length versions ≤ place + length more_vs
  are : filled (place + length more_vs) versions ≡ filled place vs ++ more_vs
  are_dropped : filled (place + length more_vs) dropped ≡ filled place ds ++ more_ds

numbers_follow : (base : Base) (vs ds : List ℕ) (place v d : ℕ) → length vs ≤ place → place < table_slots → not ((v == 0) && (d == 0)) ≡ true
    → IsTrue (may_follow (so_far stage.Numbers (with_lists base vs ds) [] []) (line.Number place v d))
numbers_follow base vs ds place v d least most said =
    let a : nat_le (length vs) place ≡ true = le-leb (length vs) place least in
    let b : nat_lt place table_slots ≡ true = lt-ltb place table_slots most in
    rw (a, b, said) refl

numbers_none_left : (base : Base) (vs ds : List ℕ) (place : ℕ) → length vs ≤ place → length vs ≡ length ds → NumbersRead base vs ds place [] []
numbers_none_left base vs ds place least same =
    let here : place + 0 ≡ place = omega arith in
    record {
      versions = vs;
      dropped = ds;
      reads = reads_none (so_far stage.Numbers (with_lists base vs ds) [] []);
      same = same;
      within = omega (arith, least);
      are = ap (λ n. filled n vs) here ∙ sym (append-nil (filled place vs));
      are_dropped = ap (λ n. filled n ds) here ∙ sym (append-nil (filled place ds));
    }

-- a number without a line
skipped : (base : Base) (vs ds : List ℕ) (place v d : ℕ) (more_vs more_ds : List ℕ) → v ≡ 0 → d ≡ 0 → length vs ≤ place → length vs ≡ length ds
    → NumbersRead base vs ds (place + 1) more_vs more_ds → NumbersRead base vs ds place (v ∷ more_vs) (d ∷ more_ds)
skipped base vs ds place v d more_vs more_ds no_v no_d least same rest =
    let next : (place + 1) + length more_vs ≡ place + length (v ∷ more_vs) = omega arith in
    let none : number_line place v d ≡ [] = (λ i. number_line place (no_v i) (no_d i)) in
    let lines : number_lines place (v ∷ more_vs) (d ∷ more_ds) ≡ number_lines (place + 1) more_vs more_ds = ap (λ (l : List PartLine). l ++ number_lines (place + 1) more_vs more_ds) none in
    record {
      versions = rest.versions;
      dropped = rest.dropped;
      reads = subst (λ l. Reads (so_far stage.Numbers (with_lists base vs ds) [] []) l (so_far stage.Numbers (with_lists base rest.versions rest.dropped) [] [])) (sym lines) rest.reads;
      same = rest.same;
      within = omega (arith, rest.within, next);
      are = ap (λ n. filled n rest.versions) (sym next) ∙ rest.are ∙ ap (λ (l : List ℕ). l ++ more_vs) (filled_more place vs least) ∙ append_assoc (filled place vs) (0 ∷ []) more_vs
          ∙ ap (λ n. filled place vs ++ n ∷ more_vs) (sym no_v);
      are_dropped = ap (λ n. filled n rest.dropped) (sym next) ∙ rest.are_dropped ∙ ap (λ (l : List ℕ). l ++ more_ds) (filled_more place ds (omega (arith, least, same))) ∙ append_assoc (filled place ds) (0 ∷ []) more_ds
          ∙ ap (λ n. filled place ds ++ n ∷ more_ds) (sym no_d);
    }

-- a number with one
told : (base : Base) (vs ds : List ℕ) (place v d : ℕ) (more_vs more_ds : List ℕ) → ((v == 0) && (d == 0)) ≡ false → length vs ≤ place → length vs ≡ length ds → place < table_slots
    → NumbersRead base (filled place vs ++ v ∷ []) (filled place ds ++ d ∷ []) (place + 1) more_vs more_ds → NumbersRead base vs ds place (v ∷ more_vs) (d ∷ more_ds)
told base vs ds place v d more_vs more_ds some least same most rest =
    let next : (place + 1) + length more_vs ≡ place + length (v ∷ more_vs) = omega arith in
    let one : number_line place v d ≡ line.Number place v d ∷ [] = rw some refl in
    let lines : number_lines place (v ∷ more_vs) (d ∷ more_ds) ≡ line.Number place v d ∷ number_lines (place + 1) more_vs more_ds = ap (λ (l : List PartLine). l ++ number_lines (place + 1) more_vs more_ds) one in
    let said : not ((v == 0) && (d == 0)) ≡ true = ap not some in
    let now = so_far stage.Numbers (with_lists base vs ds) [] [] in
    let later = so_far stage.Numbers (with_lists base rest.versions rest.dropped) [] [] in
    let long : length (filled place vs ++ v ∷ []) ≡ place + 1 = length-append (filled place vs) (v ∷ []) ∙ ap (λ n. n + 1) (filled_length place vs least) in
    let long_dropped : length (filled place ds ++ d ∷ []) ≡ place + 1 = length-append (filled place ds) (d ∷ []) ∙ ap (λ n. n + 1) (filled_length place ds (omega (arith, least, same))) in
    record {
      versions = rest.versions;
      dropped = rest.dropped;
      reads = subst (λ l. Reads now l later) (sym lines)
          (reads_more now (line.Number place v d) (number_lines (place + 1) more_vs more_ds) later (numbers_follow base vs ds place v d least most said) rest.reads);
      same = rest.same;
      within = omega (arith, rest.within, next);
      are = ap (λ n. filled n rest.versions) (sym next) ∙ rest.are ∙ ap (λ (l : List ℕ). l ++ more_vs) (filled_already (place + 1) (filled place vs ++ v ∷ []) long) ∙ append_assoc (filled place vs) (v ∷ []) more_vs;
      are_dropped = ap (λ n. filled n rest.dropped) (sym next) ∙ rest.are_dropped ∙ ap (λ (l : List ℕ). l ++ more_ds) (filled_already (place + 1) (filled place ds ++ d ∷ []) long_dropped) ∙ append_assoc (filled place ds) (d ∷ []) more_ds;
    }

both_zero : (v d : ℕ) → ((v == 0) && (d == 0)) ≡ true → (v ≡ 0) × (d ≡ 0)
both_zero v d h = let parts = and_parts (v == 0) (d == 0) h in (eqb-true v 0 parts.0, eqb-true d 0 parts.1)

one_read : (base : Base) (vs ds : List ℕ) (place v d : ℕ) (more_vs more_ds : List ℕ) → length vs ≤ place → length vs ≡ length ds → place < table_slots
    → (none : Bool) → ((v == 0) && (d == 0)) ≡ none → NumbersRead base vs ds (place + 1) more_vs more_ds
    → NumbersRead base (filled place vs ++ v ∷ []) (filled place ds ++ d ∷ []) (place + 1) more_vs more_ds → NumbersRead base vs ds place (v ∷ more_vs) (d ∷ more_ds)
one_read base vs ds place v d more_vs more_ds least same most true is skip tell =
    let zero_both = both_zero v d is in
    skipped base vs ds place v d more_vs more_ds zero_both.0 zero_both.1 least same skip
one_read base vs ds place v d more_vs more_ds least same most false is skip tell = told base vs ds place v d more_vs more_ds is least same most tell

numbers_read : (base : Base) (vs ds : List ℕ) (place : ℕ) (more_vs more_ds : List ℕ) → length vs ≤ place → length vs ≡ length ds → length more_vs ≡ length more_ds → place + length more_vs ≤ table_slots
    → NumbersRead base vs ds place more_vs more_ds
numbers_read base vs ds place [] [] least same both most = numbers_none_left base vs ds place least same
numbers_read base vs ds place [] (d ∷ more_ds) least same both most = absurd (omega (arith, both))
numbers_read base vs ds place (v ∷ more_vs) [] least same both most = absurd (omega (arith, both))
numbers_read base vs ds place (v ∷ more_vs) (d ∷ more_ds) least same both most =
    let long : length (filled place vs ++ v ∷ []) ≡ place + 1 = length-append (filled place vs) (v ∷ []) ∙ ap (λ n. n + 1) (filled_length place vs least) in
    let long_dropped : length (filled place ds ++ d ∷ []) ≡ place + 1 = length-append (filled place ds) (d ∷ []) ∙ ap (λ n. n + 1) (filled_length place ds (omega (arith, least, same))) in
    one_read base vs ds place v d more_vs more_ds least same (omega (arith, most)) ((v == 0) && (d == 0)) refl
    (numbers_read base vs ds (place + 1) more_vs more_ds (omega (arith, least)) same (omega (arith, both)) (omega (arith, most)))
    (numbers_read base (filled place vs ++ v ∷ []) (filled place ds ++ d ∷ []) (place + 1) more_vs more_ds (omega (arith, long)) (long ∙ sym long_dropped) (omega (arith, both)) (omega (arith, most)))

-- calls that count as over, and the line behind them
overs_read : (base : Base) (over : List ℕ) → Reads (so_far stage.Overs base [] []) (over_lines over ++ line.Kept ∷ []) (so_far stage.Kept (filled_base table_slots (record base { over = base.over ++ over })) [] [])
overs_read base [] =
    subst (λ o. Reads (so_far stage.Overs base [] []) (line.Kept ∷ []) (so_far stage.Kept (filled_base table_slots (record base { over = o })) [] [])) (sym (append-nil base.over))
    (record { follow = (refl, tt); ends = refl })
overs_read base (call ∷ over) =
    let next = record base { over = base.over ++ call ∷ [] } in
    let rest = overs_read next over in
    subst (λ o. Reads (so_far stage.Overs base [] []) (over_lines (call ∷ over) ++ line.Kept ∷ []) (so_far stage.Kept (filled_base table_slots (record base { over = o })) [] [])) (append_assoc base.over (call ∷ []) over)
    (reads_more (so_far stage.Overs base [] []) (line.Over call) (over_lines over ++ line.Kept ∷ []) _ refl rest)

base_ends : (base : Base) (over : List ℕ) → base.over ≡ []
    → Reads (so_far stage.Numbers base [] []) (over_lines over ++ line.Kept ∷ []) (so_far stage.Kept (filled_base table_slots (record base { over = over })) [] [])
base_ends base [] none =
    subst (λ o. Reads (so_far stage.Numbers base [] []) (line.Kept ∷ []) (so_far stage.Kept (filled_base table_slots (record base { over = o })) [] [])) none
    (record { follow = (refl, tt); ends = refl })
base_ends base (call ∷ over) none =
    let rest = overs_read (record base { over = base.over ++ call ∷ [] }) over in
    subst (λ (o : List ℕ). Reads (so_far stage.Numbers base [] []) (over_lines (call ∷ over) ++ line.Kept ∷ []) (so_far stage.Kept (filled_base table_slots (record base { over = (o ++ call ∷ []) ++ over })) [] [])) none
    (reads_more (so_far stage.Numbers base [] []) (line.Over call) (over_lines over ++ line.Kept ∷ []) _ refl rest)

kept_read : (base : Base) (kept more : List Entry) → Reads (so_far stage.Kept base kept []) (entry_lines more) (so_far stage.Kept base (kept ++ more) [])
kept_read base kept [] = subst (λ k. Reads (so_far stage.Kept base kept []) [] (so_far stage.Kept base k [])) (sym (append-nil kept)) (reads_none (so_far stage.Kept base kept []))
kept_read base kept (entry ∷ more) =
    subst (λ k. Reads (so_far stage.Kept base kept []) (entry_lines (entry ∷ more)) (so_far stage.Kept base k [])) (append_assoc kept (entry ∷ []) more)
    (reads_more (so_far stage.Kept base kept []) (line.Entry entry) (entry_lines more) _ refl (kept_read base (kept ++ entry ∷ []) more))

entries_read : (base : Base) (kept entries more : List Entry) → Reads (so_far stage.Since base kept entries) (entry_lines more) (so_far stage.Since base kept (entries ++ more))
entries_read base kept entries [] = subst (λ e. Reads (so_far stage.Since base kept entries) [] (so_far stage.Since base kept e)) (sym (append-nil entries)) (reads_none (so_far stage.Since base kept entries))
entries_read base kept entries (entry ∷ more) =
    subst (λ e. Reads (so_far stage.Since base kept entries) (entry_lines (entry ∷ more)) (so_far stage.Since base kept e)) (append_assoc entries (entry ∷ []) more)
    (reads_more (so_far stage.Since base kept entries) (line.Entry entry) (entry_lines more) _ refl (entries_read base kept (entries ++ entry ∷ []) more))

abbrev counted : Base → Base
counted base = record no_base { moment = base.moment; calls = base.calls; takes = base.takes }

-- the whole base
base_read : (base : Base) → length base.versions ≡ table_slots → length base.dropped ≡ table_slots
    → Reads (so_far stage.Numbers (counted base) [] []) ((number_lines 0 base.versions base.dropped ++ over_lines base.over) ++ line.Kept ∷ []) (so_far stage.Kept base [] [])
base_read base all_versions all_dropped =
    let read = numbers_read (counted base) [] [] 0 base.versions base.dropped (omega arith) refl (all_versions ∙ sym all_dropped) (omega (arith, all_versions)) in
    let end : 0 + length base.versions ≡ table_slots = omega (arith, all_versions) in
    let versions : filled table_slots read.versions ≡ base.versions = ap (λ n. filled n read.versions) (sym end) ∙ read.are in
    let dropped : filled table_slots read.dropped ≡ base.dropped = ap (λ n. filled n read.dropped) (sym end) ∙ read.are_dropped in
    let mid = with_lists (counted base) read.versions read.dropped in
    let last : so_far stage.Kept (filled_base table_slots (record mid { over = base.over })) [] [] ≡ so_far stage.Kept base [] [] =
    (λ i. so_far stage.Kept (record base { versions = versions i; dropped = dropped i }) [] []) in
    let lines = append_assoc (number_lines 0 base.versions base.dropped) (over_lines base.over) (line.Kept ∷ []) in
    subst (λ l. Reads (so_far stage.Numbers (counted base) [] []) l (so_far stage.Kept base [] [])) (sym lines)
    (reads_append (so_far stage.Numbers (counted base) [] []) (so_far stage.Numbers mid [] []) (so_far stage.Kept base [] []) (number_lines 0 base.versions base.dropped) (over_lines base.over ++ line.Kept ∷ [])
    read.reads (subst (Reads (so_far stage.Numbers mid [] []) (over_lines base.over ++ line.Kept ∷ [])) last (base_ends mid base.over refl)))

whole_read : (part : PartParts) → IsPart part → Reads nothing_read (lines_of part) (so_far stage.Since part.base part.kept part.entries)
whole_read part is =
    let b = part.base in
    let body = number_lines 0 b.versions b.dropped ++ over_lines b.over in
    let rest = entry_lines part.kept ++ line.Since ∷ entry_lines part.entries in
    let split = append_assoc body (line.Kept ∷ []) rest in
    let entries = reads_more (so_far stage.Kept b part.kept []) line.Since (entry_lines part.entries) (so_far stage.Since b part.kept part.entries) refl (entries_read b part.kept [] part.entries) in
    let kept = reads_append (so_far stage.Kept b [] []) (so_far stage.Kept b part.kept []) (so_far stage.Since b part.kept part.entries) (entry_lines part.kept) (line.Since ∷ entry_lines part.entries) (kept_read b [] part.kept) entries in
    let all = reads_append (so_far stage.Numbers (counted b) [] []) (so_far stage.Kept b [] []) (so_far stage.Since b part.kept part.entries) (body ++ line.Kept ∷ []) rest
    (base_read b is.base.all_versions is.base.all_dropped) kept in
    let done = subst (λ l. Reads (so_far stage.Numbers (counted b) [] []) l (so_far stage.Since b part.kept part.entries)) split all in
    record { follow = (refl, (refl, (refl, (refl, done.follow)))); ends = done.ends }

pub parts_are_read_back : PartsAreReadBack
parts_are_read_back part is =
    let whole = whole_read part is in
    record { follow = whole.follow; ends = ap (λ s. s.stage) whole.ends; says = ap part_in whole.ends }
