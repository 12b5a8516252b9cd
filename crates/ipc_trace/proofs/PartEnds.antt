-- How the reading of a part ends.
use Rattle.std.proofs.Common.{◌≡◌, ◌≢◌, ℕ, ◌+◌, ◌-◌, ◌^◌, ◌<◌, Bool, true, false, Option, List, [], ◌∷◌, ◌++◌, Ok, Err, IsTrue, length, refl, sym, ap, subst, ◌∙◌, arith, append-nil, min, length-append}
use Rattle.std.proofs.lemmas.List.{length-take}
use Rattle.std.proofs.lemmas.Grind.{flat_map-append}
use Rattle.std.specs.Io.KnownBytes.{Consumes, IsAtEnd, prepend_known}
use Rattle.std.proofs.KnownBytes.{Consumes-nil, Consumes-trans}
use Rattle.ipc_words.specs.Limits.{max_line_bytes}
use Rattle.ipc_lines.specs.declared.reading.LineFault.{LineFault}
use Rattle.ipc_lines.specs.declared.reading.LineFault.TheVariants as fault
use Rattle.ipc_trace.specs.Reading.{TakesLine}
use Rattle.ipc_trace.specs.Traces.{ended}
use Rattle.ipc_trace.specs.declared.lines.LineEnd.TheVariants as line_end
use Rattle.ipc_trace.proofs.Ends.{begins, unheld, kept_none}
use Rattle.ipc_trace.proofs.Pieces.{kept_whole}
use Rattle.ipc_trace.specs.Lines.{line_text}
use Rattle.ipc_trace.specs.Parts.{lines_of, lines_text}
use Rattle.ipc_trace.specs.PartReading.{EndsSo, HasLines, HasPart, IsOnly, IsUnfinished, Only, ReadsLine, ended_at, number_behind}
use Rattle.ipc_trace.specs.Steps.{Follow, PartSoFar, after, after_all, may_follow, nothing_read, part_in}
use Rattle.ipc_trace.specs.declared.line.PartLine.{PartLine}
use Rattle.ipc_trace.specs.declared.line.Stage.TheVariants as stage
use Rattle.ipc_trace.specs.declared.part_reading.LinesEnd.TheVariants as lines_end
use Rattle.ipc_trace.proofs.Following.{base_is_full, lines_are_of_their_part}

-- the lines so far
pub record LinesSoFar (old new : Option (List ℕ)) (so_far : PartSoFar) (number : ℕ) : Type 0 where
  pub lines : List PartLine
  pub follow : Follow nothing_read lines
  pub only : Only nothing_read lines
  pub says : so_far ≡ after_all nothing_read lines
  pub taken : Consumes old new (lines_text lines)
  pub number_is : number ≡ number_behind (length lines)

pub no_lines : (old : Option (List ℕ)) (so_far : PartSoFar) → so_far ≡ nothing_read → LinesSoFar old old so_far 1
no_lines old so_far first = record { lines = []; follow = tt; only = tt; says = first; taken = Consumes-nil old; number_is = omega arith }

-- one line more
follow_more : (now : PartSoFar) (lines : List PartLine) (read : PartLine) → Follow now lines → IsTrue (may_follow (after_all now lines) read) → Follow now (lines ++ read ∷ [])
follow_more now [] read follow follows = (follows, tt)
follow_more now (l ∷ lines) read follow follows = (follow.0, follow_more (after now l) lines read follow.1 follows)

only_more : (now : PartSoFar) (lines : List PartLine) (read : PartLine) → Only now lines → IsOnly (after_all now lines) read → Only now (lines ++ read ∷ [])
only_more now [] read only this = (this, tt)
only_more now (l ∷ lines) read only this = (only.0, only_more (after now l) lines read only.1 this)

after_more : (now : PartSoFar) (lines : List PartLine) (read : PartLine) → after_all now (lines ++ read ∷ []) ≡ after (after_all now lines) read
after_more now [] read = refl
after_more now (l ∷ lines) read = after_more (after now l) lines read

text_more : (lines : List PartLine) (read : PartLine) → lines_text (lines ++ read ∷ []) ≡ lines_text lines ++ ended (line_text read)
text_more lines read =
    flat_map-append (λ one. ended (line_text one)) lines (read ∷ []) ∙ ap (λ (t : List ℕ). lines_text lines ++ t) (append-nil (ended (line_text read)))

pub one_more : (a b c : Option (List ℕ)) (old new : PartSoFar) (number next : ℕ) (line : List ℕ) (done : Unit {0}) → LinesSoFar a b old number → TakesLine b c line line_end.Newline
    → ReadsLine old new line (Ok done) → next ≡ min (number + 1) (2 ^ 64 - 1) → LinesSoFar a c new next
one_more a b c old new number next line done so_far (text, is, one, taken) (read, follows, spelled, short, adds, only) next_is =
    let whole : text ≡ line_text read = kept_whole line text is short ∙ spelled in
    let lines = so_far.lines ++ read ∷ [] in
    let may : IsTrue (may_follow (after_all nothing_read so_far.lines) read) = subst (λ s. IsTrue (may_follow s read)) so_far.says follows in
    let bytes : lines_text lines ≡ lines_text so_far.lines ++ ended text = text_more so_far.lines read ∙ ap (λ t. lines_text so_far.lines ++ ended t) (sym whole) in
    record {
      lines = lines;
      follow = follow_more nothing_read so_far.lines read so_far.follow may;
      only = only_more nothing_read so_far.lines read so_far.only (subst (λ s. IsOnly s read) so_far.says only);
      says = adds ∙ ap (λ s. after s read) so_far.says ∙ sym (after_more nothing_read so_far.lines read);
      taken = subst (Consumes a c) (sym bytes) (Consumes-trans a b c (lines_text so_far.lines) (ended text) so_far.taken taken);
      number_is = omega (arith, next_is, so_far.number_is, length-append so_far.lines (read ∷ []));
    }

true_is_not_false : true ≡ false → ⊥
true_is_not_false is = cc

false_is_not_true : false ≡ true → ⊥
false_is_not_true is = cc

pub ends_whole : (a b rest : Option (List ℕ)) (held : List ℕ) (so_far : PartSoFar) (number : ℕ) (line : List ℕ) → LinesSoFar a b so_far number
    → TakesLine b (prepend_known held rest) line line_end.Input → length held ≡ 0 → length line ≡ 0 → HasLines a rest so_far false
ends_whole a b rest held so_far number line lines (text, is, one, taken, at_end) none empty =
    let same = unheld held rest none in
    record {
      lines = lines.lines;
      follow = lines.follow;
      only = lines.only;
      says = lines.says;
      torn = text;
      one = one;
      is_there = λ never. absurd (false_is_not_true never);
      is_none = λ so. kept_none line text is empty;
      taken = subst (λ r. Consumes a r (lines_text lines.lines ++ text)) same (Consumes-trans a b (prepend_known held rest) (lines_text lines.lines) text lines.taken taken);
      at_end = subst IsAtEnd same at_end;
    }

pub ends_torn : (a b rest : Option (List ℕ)) (held : List ℕ) (so_far : PartSoFar) (number : ℕ) (line : List ℕ) → LinesSoFar a b so_far number
    → TakesLine b (prepend_known held rest) line line_end.Input → length held ≡ 0 → 0 < length line → HasLines a rest so_far true
ends_torn a b rest held so_far number line lines (text, is, one, taken, at_end) none some =
    let same = unheld held rest none in
    record {
      lines = lines.lines;
      follow = lines.follow;
      only = lines.only;
      says = lines.says;
      torn = text;
      one = one;
      is_there = λ so. omega (arith, ap length is, length-take (max_line_bytes + 1) text, some);
      is_none = λ never. absurd (true_is_not_false never);
      taken = subst (λ r. Consumes a r (lines_text lines.lines ++ text)) same (Consumes-trans a b (prepend_known held rest) (lines_text lines.lines) text lines.taken taken);
      at_end = subst IsAtEnd same at_end;
    }

-- a line that is not read ends the reading
pub ends_at_line : (a b c rest : Option (List ℕ)) (old new : PartSoFar) (number : ℕ) (line : List ℕ) (wrong : LineFault) → LinesSoFar a b old number
    → TakesLine b c line line_end.Newline → ReadsLine old new line (Err wrong) → EndsSo a rest new (ended_at wrong number)
ends_at_line a b c rest old new number line fault.NoMemory so_far takes reads = tt
ends_at_line a b c rest old new number line fault.Bad so_far (text, is, one, taken) bad = record {
  lines = so_far.lines;
  follow = so_far.follow;
  only = so_far.only;
  bad = text;
  one = one;
  is_bad = λ read readable follows. bad text is read readable (subst (λ s. IsTrue (may_follow s read)) (sym so_far.says) follows);
  number_is = so_far.number_is;
  begins = begins a c (lines_text so_far.lines ++ ended text) (Consumes-trans a b c (lines_text so_far.lines) (ended text) so_far.taken taken);
}

-- the part of the lines that were read
pub has_part : (old new : Option (List ℕ)) (so_far : PartSoFar) (is_torn : Bool) → HasLines old new so_far is_torn → so_far.stage ≡ stage.Since → HasPart old new (part_in so_far) is_torn
has_part old new so_far is_torn has whole =
    let at_since : (after_all nothing_read has.lines).stage ≡ stage.Since = ap (λ s. s.stage) (sym has.says) ∙ whole in
    let lines : has.lines ≡ lines_of (part_in so_far) = lines_are_of_their_part has.lines has.follow at_since ∙ ap (λ s. lines_of (part_in s)) (sym has.says) in
    let full = base_is_full has.lines has.follow at_since in
    record {
      all_versions = ap (λ s. length s.base.versions) has.says ∙ full.versions;
      all_dropped = ap (λ s. length s.base.dropped) has.says ∙ full.dropped;
      torn = has.torn;
      one = has.one;
      is_there = has.is_there;
      is_none = has.is_none;
      taken = subst (λ l. Consumes old new (lines_text l ++ has.torn)) lines has.taken;
      at_end = has.at_end;
    }

pub is_unfinished : (old new : Option (List ℕ)) (so_far : PartSoFar) (is_torn : Bool) → HasLines old new so_far is_torn → so_far.stage ≢ stage.Since → IsUnfinished old new
is_unfinished old new so_far is_torn has unfinished = record {
  lines = has.lines;
  follow = has.follow;
  unfinished = λ whole. unfinished (ap (λ s. s.stage) has.says ∙ whole);
  torn = has.torn;
  one = has.one;
  taken = has.taken;
  at_end = has.at_end;
}

-- a whole line is no failure
pub ended_is_no_failure : (wrong : LineFault) (number : ℕ) → ended_at wrong number ≡ lines_end.DeviceFailed → ⊥
ended_is_no_failure fault.Bad number is = cc
ended_is_no_failure fault.NoMemory number is = cc
