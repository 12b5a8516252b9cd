-- The lines of a script that were obeyed so far, one more at a time, and how a run ends after them.
use Rattle.std.proofs.Common.{◌≡◌, ℕ, ◌+◌, ◌<◌, ◌≤◌, Option, Some, None, IfSome, List, [], ◌∷◌, ◌++◌, length, take, drop, take-append-drop, refl, sym, ap, subst, ◌∙◌, arith, append_assoc, append-nil, length-append, inl, inr}
use Rattle.std.specs.Option.{IsSomeAnd}
use Rattle.std.specs.Io.KnownBytes.{Appends}
use Rattle.std.proofs.KnownBytes.{Appends-nil, Appends-trans}
use Rattle.ipc_words.specs.Limits.{max_line_bytes}
use Rattle.ipc_shell.specs.ScriptLines.{lines_of}
use Rattle.ipc_shell.specs.Failing.{most_lines}
use Rattle.ipc_shell.specs.Reading.{ReadsLine}
use Rattle.ipc_shell.specs.Scripts.{ObeysLine, ObeysLines, StopsAfterLines, RunsLines, EndsAtLine}
use Rattle.ipc_shell.specs.declared.lines.NextLine.TheVariants as next
use Rattle.ipc_shell.specs.declared.exit.Exit.{Exit}
use Rattle.ipc_shell.specs.declared.exit.Exit.TheVariants.{Done, BadLine, NoMemory, DeviceFailed, Illegal, UnknownVersion}

-- the lines that were obeyed of these bytes, and what was printed for them; the next line has this
-- number
pub record ObeyedOf {S : Type 0} (Obeys : S → List ℕ → List ℕ → S → Type 0) (start : S) (bytes rest : List ℕ) (printed_before printed_now : Option (List ℕ)) (state : S) (number : ℕ) : Type 0 where
  pub before : List (List ℕ)
  pub text : List ℕ
  pub lines_are : lines_of bytes ≡ before ++ lines_of rest
  pub number_is : number ≡ length before + 1
  pub taken : ObeysLines Obeys start before text state
  pub appended : Appends printed_before printed_now text

abbrev pub ObeyedSoFar : {S : Type 0} → (S → List ℕ → List ℕ → S → Type 0) → S → Option (List ℕ) → Option (List ℕ) → Option (List ℕ) → Option (List ℕ) → S → ℕ → Type 0
ObeyedSoFar Obeys start bytes rest before now state number = IfSome bytes (λ bytes. IsSomeAnd rest (λ rest. ObeyedOf Obeys start bytes rest before now state number))

short_line : (rest left : Option (List ℕ)) (line : List ℕ) → ReadsLine rest left line next.Line → IfSome rest (λ _. length line ≤ max_line_bytes)
short_line None left line read = tt
short_line (Some rest) None line read = absurd read
short_line (Some rest) (Some left) line read = read.1

module _ (S : Type 0) (Obeys : S → List ℕ → List ℕ → S → Type 0) (IsNone : S → List ℕ → Type 0) where
  -- one more line behind others
  obeys_more : (start middle last : S) (lines : List (List ℕ)) (line text more : List ℕ) → ObeysLines Obeys start lines text middle → ObeysLine Obeys middle line more last
      → ObeysLines Obeys start (lines ++ line ∷ []) (text ++ more) last
  obeys_more start middle last [] line text more (none, same) taken =
      (last, (more, ([], ap (λ t. t ++ more) none ∙ sym (append-nil more), subst (λ k. ObeysLine Obeys k line more last) same taken, (refl, refl))))
  obeys_more start middle last (l ∷ ls) line text more (between, (first, (rest, is, one, others))) taken =
      (between, (first, (rest ++ more, ap (λ t. t ++ more) is ∙ append_assoc first rest more, one, obeys_more between middle last ls line rest more others taken)))

  pub none_obeyed : (start : S) (bytes before : Option (List ℕ)) → ObeyedSoFar Obeys start bytes bytes before before start 1
  none_obeyed start None before = tt
  none_obeyed start (Some bytes) before = record { before = []; text = []; lines_are = refl; number_is = refl; taken = (refl, refl); appended = Appends-nil before }

  -- so many lines stand before one of this number
  pub many_obeyed : (start : S) (bytes rest before now : Option (List ℕ)) (state : S) (number : ℕ) → ObeyedSoFar Obeys start bytes rest before now state number → most_lines < number
      → IfSome bytes (λ bytes. most_lines ≤ length (lines_of bytes))
  many_obeyed start None rest before now state number so_far many = tt
  many_obeyed start (Some bytes) None before now state number so_far many = absurd so_far
  many_obeyed start (Some bytes) (Some rest) before now state number so_far many =
      omega (arith, ap length so_far.lines_are, length-append so_far.before (lines_of rest), so_far.number_is, many)

  -- a line that is not empty
  obeys_filled : (old new : S) (line text : List ℕ) → 0 < length line → length line ≤ max_line_bytes → Obeys old line text new → ObeysLine Obeys old line text new
  obeys_filled old new [] text some short runs = absurd (omega arith)
  obeys_filled old new (byte ∷ bytes) text some short runs = (short, runs)

  -- one more line was read, and obeyed
  module _ (start state new : S) (line text : List ℕ) (number : ℕ) (before now after : Option (List ℕ)) where
    one_more : (bytes rest left : Option (List ℕ)) → ObeyedSoFar Obeys start bytes rest before now state number → ReadsLine rest left line next.Line
        → ObeysLine Obeys state line text new → Appends now after text → ObeyedSoFar Obeys start bytes left before after new (number + 1)
    one_more None rest left so_far read taken appended = tt
    one_more (Some bytes) None left so_far read taken appended = absurd so_far
    one_more (Some bytes) (Some rest) None so_far read taken appended = absurd read
    one_more (Some bytes) (Some rest) (Some left) so_far read taken appended =
        record {
          before = so_far.before ++ line ∷ [];
          text = so_far.text ++ text;
          lines_are = so_far.lines_are ∙ ap (λ ls. so_far.before ++ ls) read.0 ∙ sym (append_assoc so_far.before (line ∷ []) (lines_of left));
          number_is = omega (arith, so_far.number_is, length-append so_far.before (line ∷ []));
          taken = obeys_more start state new so_far.before line so_far.text text so_far.taken taken;
          appended = Appends-trans before now after so_far.text text so_far.appended appended;
        }

  -- an empty line
  pub one_empty_line : (start state : S) (line : List ℕ) (number : ℕ) (before now bytes rest left : Option (List ℕ)) → length line ≡ 0
      → ObeyedSoFar Obeys start bytes rest before now state number → ReadsLine rest left line next.Line → ObeyedSoFar Obeys start bytes left before now state (number + 1)
  one_empty_line start state [] number before now bytes rest left empty so_far read =
      one_more start state state [] [] number before now now bytes rest left so_far read (refl, refl) (Appends-nil now)
  one_empty_line start state (x ∷ xs) number before now bytes rest left empty so_far read = absurd (omega (arith, empty))

  -- a line with a command
  pub one_command_line : (start state new : S) (line : List ℕ) (number : ℕ) (before now after bytes rest left : Option (List ℕ)) → 0 < length line
      → ObeyedSoFar Obeys start bytes rest before now state number → ReadsLine rest left line next.Line → EndsAtLine Obeys IsNone state new now after line number None
      → ObeyedSoFar Obeys start bytes left before after new (number + 1)
  one_command_line start state new line number before now after None rest left some so_far read ends = tt
  one_command_line start state new line number before now after (Some bytes) None left some so_far read ends = absurd so_far
  one_command_line start state new line number before now after (Some bytes) (Some rest) left some so_far read (text, runs, appended) =
      one_more start state new line text number before now after (Some bytes) (Some rest) left so_far read
      (obeys_filled state new line text some (short_line (Some rest) left line read) runs) appended

  -- what stands written after some lines, and no more
  stops_here : (start state : S) (bytes rest : List ℕ) (number : ℕ) (before now after : Option (List ℕ)) → ObeyedOf Obeys start bytes rest before now state number → Appends now after []
      → (text : List ℕ) × Appends before after text × StopsAfterLines Obeys start (lines_of bytes) text
  stops_here start state bytes rest number before now after so_far none =
      let text = so_far.text in (
        text,
        subst (Appends before after) (append-nil text) (Appends-trans before now after text [] so_far.appended none),
        record {
          before = so_far.before;
          after = lines_of rest;
          last = state;
          lines_are = so_far.lines_are;
          printed = so_far.taken;
        },
      )

  module _ (start state : S) (number : ℕ) (before now after : Option (List ℕ)) where
    pub stops_without_memory : (bytes rest : Option (List ℕ)) → ObeyedSoFar Obeys start bytes rest before now state number → Appends now after [] → RunsLines Obeys IsNone start bytes before after NoMemory
    stops_without_memory None rest so_far none = tt
    stops_without_memory (Some bytes) None so_far none = absurd so_far
    stops_without_memory (Some bytes) (Some rest) so_far none = stops_here start state bytes rest number before now after so_far none

    pub stops_with_device : (bytes rest : Option (List ℕ)) → ObeyedSoFar Obeys start bytes rest before now state number → Appends now after [] → RunsLines Obeys IsNone start bytes before after DeviceFailed
    stops_with_device None rest so_far none = tt
    stops_with_device (Some bytes) None so_far none = absurd so_far
    stops_with_device (Some bytes) (Some rest) so_far none =
        let (text, appended, stops) = stops_here start state bytes rest number before now after so_far none in
        (text, appended, ([], subst (StopsAfterLines Obeys start (lines_of bytes)) (sym (append-nil text)) stops))

  module _ (start state : S) (line : List ℕ) (number : ℕ) (before now : Option (List ℕ)) where
    pub stops_done : (bytes rest left : Option (List ℕ)) → ObeyedSoFar Obeys start bytes rest before now state number → ReadsLine rest left line next.End → RunsLines Obeys IsNone start bytes before now Done
    stops_done None rest left so_far read = tt
    stops_done (Some bytes) None left so_far read = absurd so_far
    stops_done (Some bytes) (Some rest) left so_far read =
        let all : lines_of bytes ≡ so_far.before = so_far.lines_are ∙ ap (λ ls. so_far.before ++ ls) read ∙ append-nil so_far.before in
        (so_far.text, so_far.appended, (state, subst (λ ls. ObeysLines Obeys start ls so_far.text state) (sym all) so_far.taken))

    pub stops_too_long : (bytes rest left : Option (List ℕ)) → ObeyedSoFar Obeys start bytes rest before now state number → ReadsLine rest left line next.TooLong → RunsLines Obeys IsNone start bytes before now (BadLine number)
    stops_too_long None rest left so_far read = tt
    stops_too_long (Some bytes) None left so_far read = absurd so_far
    stops_too_long (Some bytes) (Some rest) left so_far (first, (others, is, long)) = (
      so_far.text,
      so_far.appended,
      record {
        before = so_far.before;
        bad = first;
        after = others;
        last = state;
        lines_are = so_far.lines_are ∙ ap (λ ls. so_far.before ++ ls) is;
        is_bad = inl long;
        number_is = so_far.number_is;
        printed = so_far.taken;
      },
    )

  -- a line ends the run
  pub stops_at_line : (start state new : S) (line : List ℕ) (number : ℕ) (before now after bytes rest left : Option (List ℕ)) (exit : Exit) → 0 < length line
      → ObeyedSoFar Obeys start bytes rest before now state number → ReadsLine rest left line next.Line → EndsAtLine Obeys IsNone state new now after line number (Some exit) → RunsLines Obeys IsNone start bytes before after exit
  stops_at_line start state new line number before now after None rest left exit some so_far read ends = tt
  stops_at_line start state new line number before now after (Some bytes) None left exit some so_far read ends = absurd so_far
  stops_at_line start state new line number before now after (Some bytes) (Some rest) None exit some so_far read ends = absurd read
  stops_at_line start state new line number before now after (Some bytes) (Some rest) (Some left) Done some so_far read ends = absurd ends
  stops_at_line start state new line number before now after (Some bytes) (Some rest) (Some left) Illegal some so_far read ends = absurd ends
  stops_at_line start state new line number before now after (Some bytes) (Some rest) (Some left) UnknownVersion some so_far read ends = absurd ends
  stops_at_line start state new line number before now after (Some bytes) (Some rest) (Some left) (BadLine n) some so_far read (same, no_command, none) =
      let text = so_far.text in (
        text,
        subst (Appends before after) (append-nil text) (Appends-trans before now after text [] so_far.appended none),
        record {
          before = so_far.before;
          bad = line;
          after = lines_of left;
          last = state;
          lines_are = so_far.lines_are ∙ ap (λ ls. so_far.before ++ ls) read.0;
          is_bad = inr (some, no_command);
          number_is = same ∙ so_far.number_is;
          printed = so_far.taken;
        },
      )
  stops_at_line start state new line number before now after (Some bytes) (Some rest) (Some left) NoMemory some so_far read ends =
      stops_here start state bytes rest number before now after so_far ends
  stops_at_line start state new line number before now after (Some bytes) (Some rest) (Some left) DeviceFailed some so_far read (said, runs, (count, within, appended)) =
      let text = so_far.text in
      let front = take count said in
      let back = drop count said in (
        text ++ front,
        Appends-trans before now after text front so_far.appended appended,
        (
          back,
          record {
            before = so_far.before ++ line ∷ [];
            after = lines_of left;
            last = new;
            lines_are = so_far.lines_are ∙ ap (λ ls. so_far.before ++ ls) read.0 ∙ sym (append_assoc so_far.before (line ∷ []) (lines_of left));
            printed = subst (λ t. ObeysLines Obeys start (so_far.before ++ line ∷ []) t new) (sym (append_assoc text front back))
                (obeys_more start state new so_far.before line text (front ++ back) so_far.taken (obeys_filled state new line (front ++ back) some read.1 (subst (λ t. Obeys state line t new) (sym (take-append-drop count said)) runs)));
          },
        ),
      )
