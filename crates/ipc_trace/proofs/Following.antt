-- The lines that were read are those of what they say.
use Rattle.std.proofs.Common.{◌≡◌, ℕ, ◌+◌, ◌≤◌, ◌<◌, IsTrue, List, [], ◌∷◌, ◌++◌, length, refl, sym, ap, subst, ◌∙◌, arith, append_assoc, append-nil, length-append}
use Rattle.std.specs.Prelude.{◌==◌, ◌&&◌, not, nat_le, nat_lt}
use Rattle.std.proofs.lemmas.Bool.{and_parts, leb-true, ltb-true}
use Rattle.std.proofs.lemmas.List.{map-append}
use Rattle.ipc_words.specs.Limits.{table_slots}
use Rattle.ipc_history.specs.declared.entry.Entry.{Entry}
use Rattle.ipc_compact.specs.Compact.{Base}
use Rattle.ipc_trace.specs.Parts.{base_lines, entry_lines, lines_of, number_lines, over_lines}
use Rattle.ipc_trace.specs.PartReading.{LinesAreOfTheirPart}
use Rattle.ipc_trace.specs.Steps.{Follow, PartSoFar, after, after_all, filled, filled_base, may_follow, nothing_read, part_in, with_number}
use Rattle.ipc_trace.specs.declared.line.PartLine.{PartLine}
use Rattle.ipc_trace.specs.declared.line.PartLine.TheVariants as line
use Rattle.ipc_trace.specs.declared.line.Stage.{Stage}
use Rattle.ipc_trace.specs.declared.line.Stage.TheVariants as stage
use Rattle.ipc_trace.proofs.Numbers.{filled_length, numbers_filled, numbers_more}

abbrev pub so_far : Stage → Base → List Entry → List Entry → PartSoFar
so_far at base kept entries = record { stage = at; base = base; kept = kept; entries = entries }

-- the lists of a base whose numbers come
pub record AreLists (base : Base) : Type 0 where
  pub same : length base.versions ≡ length base.dropped
  pub within : length base.versions ≤ table_slots

pub record IsEmpty (base : Base) : Type 0 where
  pub versions : base.versions ≡ []
  pub dropped : base.dropped ≡ []
  pub over : base.over ≡ []

-- the lists of a base that is whole
pub record AreFull (base : Base) : Type 0 where
  pub versions : length base.versions ≡ table_slots
  pub dropped : length base.dropped ≡ table_slots

-- what is there where the part has come so far
abbrev pub Shape : Stage → Base → List Entry → List Entry → Type 0
Shape stage.Version base kept entries = IsEmpty base × (kept ≡ []) × (entries ≡ [])
Shape stage.Moment base kept entries = IsEmpty base × (kept ≡ []) × (entries ≡ [])
Shape stage.Calls base kept entries = IsEmpty base × (kept ≡ []) × (entries ≡ [])
Shape stage.Takes base kept entries = IsEmpty base × (kept ≡ []) × (entries ≡ [])
Shape stage.Numbers base kept entries = AreLists base × (base.over ≡ []) × (kept ≡ []) × (entries ≡ [])
Shape stage.Overs base kept entries = AreLists base × (kept ≡ []) × (entries ≡ [])
Shape stage.Kept base kept entries = AreFull base × (entries ≡ [])
Shape stage.Since base kept entries = AreFull base

-- the lines that say it
abbrev pub said : Stage → Base → List Entry → List Entry → List PartLine
said stage.Version base kept entries = []
said stage.Moment base kept entries = line.Version ∷ []
said stage.Calls base kept entries = line.Version ∷ line.Moment base.moment ∷ []
said stage.Takes base kept entries = line.Version ∷ line.Moment base.moment ∷ line.Calls base.calls ∷ []
said stage.Numbers base kept entries = base_lines base
said stage.Overs base kept entries = base_lines base
said stage.Kept base kept entries = base_lines base ++ line.Kept ∷ entry_lines kept
said stage.Since base kept entries = base_lines base ++ line.Kept ∷ (entry_lines kept ++ line.Since ∷ entry_lines entries)

-- a line was read
record Step (now : PartSoFar) (before : List PartLine) (read : PartLine) : Type 0 where
  shape : Shape now.stage now.base now.kept now.entries
  lines : said now.stage now.base now.kept now.entries ≡ before ++ read ∷ []

entries_more : (entries : List Entry) (entry : Entry) → entry_lines (entries ++ entry ∷ []) ≡ entry_lines entries ++ line.Entry entry ∷ []
entries_more entries entry = map-append (λ e. line.Entry e) entries (entry ∷ [])

abbrev top : Base → List PartLine
top base = line.Version ∷ line.Moment base.moment ∷ line.Calls base.calls ∷ line.Takes base.takes ∷ []

takes_step : (base : Base) (kept entries : List Entry) (takes : ℕ) → IsEmpty base → kept ≡ [] → entries ≡ []
    → Step (so_far stage.Numbers (record base { takes = takes }) kept entries) (said stage.Takes base kept entries) (line.Takes takes)
takes_step base kept entries takes none no_kept no_entries =
    let numbers : number_lines 0 base.versions base.dropped ≡ [] = (λ i. number_lines 0 (none.versions i) (none.dropped i)) in
    record {
      shape = (
        record { same = (λ i. length (none.versions i)) ∙ sym (ap length none.dropped); within = omega (arith, ap length none.versions) },
        none.over,
        no_kept,
        no_entries,
      );
      lines = ap (λ (l : List PartLine). line.Version ∷ line.Moment base.moment ∷ line.Calls base.calls ∷ line.Takes takes ∷ l)
          ((λ i. numbers i ++ over_lines (none.over i)));
    }

number_step : (base : Base) (kept entries : List Entry) (number version dropped : ℕ) → AreLists base → base.over ≡ [] → kept ≡ [] → entries ≡ []
    → IsTrue (may_follow (so_far stage.Numbers base kept entries) (line.Number number version dropped))
    → Step (so_far stage.Numbers (with_number base number version dropped) kept entries) (base_lines base) (line.Number number version dropped)
number_step base kept entries number version dropped lists none no_kept no_entries follows =
    let parts = and_parts (nat_le (length base.versions) number) (nat_lt number table_slots && not ((version == 0) && (dropped == 0))) follows in
    let more = and_parts (nat_lt number table_slots) (not ((version == 0) && (dropped == 0))) parts.1 in
    let least : length base.versions ≤ number = leb-true (length base.versions) number parts.0 in
    let most : number < table_slots = ltb-true number table_slots more.0 in
    let one : length (filled number base.versions ++ version ∷ []) ≡ number + 1 =
    length-append (filled number base.versions) (version ∷ []) ∙ ap (λ n. n + 1) (filled_length number base.versions least) in
    let two : length (filled number base.dropped ++ dropped ∷ []) ≡ number + 1 =
    length-append (filled number base.dropped) (dropped ∷ []) ∙ ap (λ n. n + 1) (filled_length number base.dropped (omega (arith, lists.same))) in
    let numbers = numbers_more base.versions base.dropped number version dropped lists.same least more.1 in
    let all : number_lines 0 (filled number base.versions ++ version ∷ []) (filled number base.dropped ++ dropped ∷ []) ++ over_lines base.over
    ≡ (number_lines 0 base.versions base.dropped ++ over_lines base.over) ++ line.Number number version dropped ∷ [] =
    (λ i. numbers i ++ over_lines (none i)) ∙ append-nil (number_lines 0 base.versions base.dropped ++ line.Number number version dropped ∷ [])
    ∙ ap (λ (l : List PartLine). l ++ line.Number number version dropped ∷ [])
    (sym (append-nil (number_lines 0 base.versions base.dropped)) ∙ (λ i. number_lines 0 base.versions base.dropped ++ over_lines (sym none i))) in
    record {
      shape = (record { same = one ∙ sym two; within = omega (arith, one, most) }, none, no_kept, no_entries);
      lines = ap (λ (l : List PartLine). top base ++ l) all;
    }

over_step : (base : Base) (kept entries : List Entry) (call : ℕ) → AreLists base → kept ≡ [] → entries ≡ []
    → Step (so_far stage.Overs (record base { over = base.over ++ call ∷ [] }) kept entries) (base_lines base) (line.Over call)
over_step base kept entries call lists no_kept no_entries =
    let numbers = number_lines 0 base.versions base.dropped in
    record {
      shape = (record { same = lists.same; within = lists.within }, no_kept, no_entries);
      lines = ap (λ (l : List PartLine). top base ++ l)
          (ap (λ (l : List PartLine). numbers ++ l) (map-append (λ n. line.Over n) base.over (call ∷ [])) ∙ sym (append_assoc numbers (over_lines base.over) (line.Over call ∷ [])));
    }

kept_step : (base : Base) (kept entries : List Entry) → AreLists base → kept ≡ [] → entries ≡ []
    → Step (so_far stage.Kept (filled_base table_slots base) kept entries) (base_lines base) line.Kept
kept_step base kept entries lists no_kept no_entries =
    let numbers = numbers_filled table_slots base.versions base.dropped lists.same lists.within in
    record {
      shape = (
        record {
          versions = filled_length table_slots base.versions lists.within;
          dropped = filled_length table_slots base.dropped (omega (arith, lists.same, lists.within));
        },
        no_entries,
      );
      lines = (λ i. (top base ++ (numbers i ++ over_lines base.over)) ++ line.Kept ∷ entry_lines (no_kept i));
    }

kept_entry_step : (base : Base) (kept entries : List Entry) (entry : Entry) → AreFull base → entries ≡ []
    → Step (so_far stage.Kept base (kept ++ entry ∷ []) entries) (said stage.Kept base kept entries) (line.Entry entry)
kept_entry_step base kept entries entry full none = record {
  shape = (full, none);
  lines = ap (λ (l : List PartLine). base_lines base ++ line.Kept ∷ l) (entries_more kept entry) ∙ sym (append_assoc (base_lines base) (line.Kept ∷ entry_lines kept) (line.Entry entry ∷ []));
}

since_step : (base : Base) (kept entries : List Entry) → AreFull base → entries ≡ []
    → Step (so_far stage.Since base kept entries) (said stage.Kept base kept entries) line.Since
since_step base kept entries full none = record {
  shape = full;
  lines = (λ i. base_lines base ++ line.Kept ∷ (entry_lines kept ++ line.Since ∷ entry_lines (none i))) ∙ sym (append_assoc (base_lines base) (line.Kept ∷ entry_lines kept) (line.Since ∷ []));
}

entry_step : (base : Base) (kept entries : List Entry) (entry : Entry) → AreFull base
    → Step (so_far stage.Since base kept (entries ++ entry ∷ [])) (said stage.Since base kept entries) (line.Entry entry)
entry_step base kept entries entry full = record {
  shape = full;
  lines = ap (λ (l : List PartLine). base_lines base ++ line.Kept ∷ (entry_lines kept ++ line.Since ∷ l)) (entries_more entries entry)
      ∙ ap (λ (l : List PartLine). base_lines base ++ line.Kept ∷ l) (sym (append_assoc (entry_lines kept) (line.Since ∷ entry_lines entries) (line.Entry entry ∷ [])))
      ∙ sym (append_assoc (base_lines base) (line.Kept ∷ (entry_lines kept ++ line.Since ∷ entry_lines entries)) (line.Entry entry ∷ []));
}

step_at : (at : Stage) (base : Base) (kept entries : List Entry) (read : PartLine) → Shape at base kept entries
    → IsTrue (may_follow (so_far at base kept entries) read) → Step (after (so_far at base kept entries) read) (said at base kept entries) read
step_at stage.Version base kept entries line.Version shape follows = record { shape = shape; lines = refl }
step_at stage.Version base kept entries _ shape follows = cc
step_at stage.Moment base kept entries (line.Moment moment) (none, no_kept, no_entries) follows =
    record { shape = (record { versions = none.versions; dropped = none.dropped; over = none.over }, no_kept, no_entries); lines = refl }
step_at stage.Moment base kept entries _ shape follows = cc
step_at stage.Calls base kept entries (line.Calls calls) (none, no_kept, no_entries) follows =
    record { shape = (record { versions = none.versions; dropped = none.dropped; over = none.over }, no_kept, no_entries); lines = refl }
step_at stage.Calls base kept entries _ shape follows = cc
step_at stage.Takes base kept entries (line.Takes takes) (none, no_kept, no_entries) follows = takes_step base kept entries takes none no_kept no_entries
step_at stage.Takes base kept entries _ shape follows = cc
step_at stage.Numbers base kept entries (line.Number number version dropped) (lists, none, no_kept, no_entries) follows =
    number_step base kept entries number version dropped lists none no_kept no_entries follows
step_at stage.Numbers base kept entries (line.Over call) (lists, none, no_kept, no_entries) follows = over_step base kept entries call lists no_kept no_entries
step_at stage.Numbers base kept entries line.Kept (lists, none, no_kept, no_entries) follows = kept_step base kept entries lists no_kept no_entries
step_at stage.Numbers base kept entries _ shape follows = cc
step_at stage.Overs base kept entries (line.Over call) (lists, no_kept, no_entries) follows = over_step base kept entries call lists no_kept no_entries
step_at stage.Overs base kept entries line.Kept (lists, no_kept, no_entries) follows = kept_step base kept entries lists no_kept no_entries
step_at stage.Overs base kept entries _ shape follows = cc
step_at stage.Kept base kept entries (line.Entry entry) (full, none) follows = kept_entry_step base kept entries entry full none
step_at stage.Kept base kept entries line.Since (full, none) follows = since_step base kept entries full none
step_at stage.Kept base kept entries _ none follows = cc
step_at stage.Since base kept entries (line.Entry entry) full follows = entry_step base kept entries entry full
step_at stage.Since base kept entries _ shape follows = cc

abbrev ShapeOf : PartSoFar → Type 0
ShapeOf now = Shape now.stage now.base now.kept now.entries

abbrev said_by : PartSoFar → List PartLine
said_by now = said now.stage now.base now.kept now.entries

all_said : (now : PartSoFar) (lines : List PartLine) → ShapeOf now → Follow now lines → said_by now ++ lines ≡ said_by (after_all now lines)
all_said now [] shape follow = append-nil (said_by now)
all_said now (read ∷ lines) shape (follows, follow) =
    let step = step_at now.stage now.base now.kept now.entries read shape follows in
    sym (append_assoc (said_by now) (read ∷ []) lines) ∙ ap (λ (l : List PartLine). l ++ lines) (sym step.lines)
    ∙ all_said (after now read) lines step.shape follow

said_whole : (now : PartSoFar) → now.stage ≡ stage.Since → said_by now ≡ lines_of (part_in now)
said_whole now whole = ap (λ at. said at now.base now.kept now.entries) whole

pub lines_are_of_their_part : LinesAreOfTheirPart
lines_are_of_their_part lines follow whole =
    all_said nothing_read lines (record { versions = refl; dropped = refl; over = refl }, refl, refl) follow
    ∙ said_whole (after_all nothing_read lines) whole

-- the lists of the base of a whole part are whole
shape_kept : (now : PartSoFar) (lines : List PartLine) → ShapeOf now → Follow now lines → ShapeOf (after_all now lines)
shape_kept now [] shape follow = shape
shape_kept now (read ∷ lines) shape (follows, follow) =
    shape_kept (after now read) lines (step_at now.stage now.base now.kept now.entries read shape follows).shape follow

full_shape : (now : PartSoFar) → now.stage ≡ stage.Since → ShapeOf now → AreFull now.base
full_shape now whole shape = subst (λ at. Shape at now.base now.kept now.entries) whole shape

pub base_is_full : (lines : List PartLine) → Follow nothing_read lines → (after_all nothing_read lines).stage ≡ stage.Since → AreFull (after_all nothing_read lines).base
base_is_full lines follow whole =
    full_shape (after_all nothing_read lines) whole
    (shape_kept nothing_read lines (record { versions = refl; dropped = refl; over = refl }, refl, refl) follow)
