-- From what a chunk adds to a line to what a read takes, and from the reads of a line to the line.
use Rattle.std.proofs.Common.{◌≡◌, ◌≢◌, ℕ, zero, suc, ◌+◌, ◌-◌, ◌≤◌, ◌<◌, Option, Some, None, Result, Ok, Err, OnOk, List, [], ◌∷◌, ◌++◌, length, take, drop, refl, sym, ap, subst, ◌∙◌, arith, append_assoc, append-nil, length-append, take-append-drop}
use Rattle.std.proofs.lemmas.List.{length-take, take_all}
use Rattle.std.proofs.lemmas.List.Elements.{All-append}
use Rattle.std.proofs.Math.Seq.{take-append-add}
use Rattle.std.specs.Io.KnownBytes.{Keeps, Consumes, IsAtEnd, prepend_known}
use Rattle.std.proofs.KnownBytes.{Consumes-trans, Consumes-nil}
use Rattle.ipc_words.specs.Limits.{max_line_bytes}
use Rattle.ipc_base.specs.Lines.{IsOneLine}
use Rattle.ipc_trace.specs.Traces.{ended}
use Rattle.ipc_trace.specs.Reading.{kept, Adds, TakesPiece, TakesLine}
use Rattle.ipc_trace.specs.declared.lines.LineEnd.{LineEnd}
use Rattle.ipc_trace.specs.declared.lines.LineEnd.TheVariants.{Newline, Input, Failed, NoMemory}

-- what is kept of a front is enough
take_over : (m : ℕ) (xs ys : List ℕ) → take m (take m xs ++ ys) ≡ take m (xs ++ ys)
take_over zero xs ys = refl
take_over (suc m) [] ys = refl
take_over (suc m) (x ∷ xs) ys = ap (λ (t : List ℕ). x ∷ t) (take_over m xs ys)

pub kept_more : (text part before line : List ℕ) → before ≡ kept text → line ≡ kept (before ++ part) → line ≡ kept (text ++ part)
kept_more text part before line was is =
    is ∙ ap (λ (t : List ℕ). kept (t ++ part)) was ∙ take_over (max_line_bytes + 1) text part

-- no line has more
pub kept_short : (line text : List ℕ) → line ≡ kept text → length line ≤ max_line_bytes + 1
kept_short line text is = omega (arith, ap length is, length-take (max_line_bytes + 1) text)

-- a line of which not too much is kept is whole
pub kept_whole : (line text : List ℕ) → line ≡ kept text → length line ≤ max_line_bytes → text ≡ line
kept_whole line text is short =
    let fits : length text ≤ max_line_bytes + 1 = omega (arith, ap length is, length-take (max_line_bytes + 1) text, short) in
    sym (is ∙ take_all (max_line_bytes + 1) text fits)

-- as many bytes of the text as there is room for
pub keeps_front : (line text new : List ℕ) (room : ℕ) → room ≡ max_line_bytes + 1 - length line → length line ≤ max_line_bytes + 1 → new ≡ line ++ take room text
    → new ≡ kept (line ++ text)
keeps_front line text new room is short appended =
    let all : length line + room ≡ max_line_bytes + 1 = omega (arith, is, short) in
    appended ∙ sym (take-append-add line text room) ∙ ap (λ n. take n (line ++ text)) all

pub keeps_all : (line text new : List ℕ) → length line + length text ≤ max_line_bytes + 1 → new ≡ line ++ text → new ≡ kept (line ++ text)
keeps_all line text new fits appended = appended ∙ sym (take_all (max_line_bytes + 1) (line ++ text) (omega (arith, length-append line text, fits)))

-- what follows where a call went well
pub where_ok : {X E : Type 0} {P Q : Type 0} (result : Result X E) → (P → Q) → OnOk result P → OnOk result Q
where_ok (Ok x) f p = f p
where_ok (Err e) f p = tt

pub none_is_no_failure : None ≢ Some Failed
none_is_no_failure is = cc

-- a buffer was filled, and so many of its bytes were used
pub used : (a rest : Option (List ℕ)) (shown : List ℕ) (n : ℕ) → Keeps a (prepend_known shown rest) → Consumes a (prepend_known (drop n shown) rest) (take n shown)
used None rest shown n same = tt
used (Some x) None shown n same = absurd same
used (Some x) (Some y) shown n same = sym same ∙ ap (λ bytes. bytes ++ y) (sym (take-append-drop n shown)) ∙ append_assoc (take n shown) (drop n shown) y

-- nothing was left
used_up : (rest : Option (List ℕ)) (held : List ℕ) → length held ≡ 0 → IsAtEnd rest → IsAtEnd (prepend_known held rest)
used_up None held none end = tt
used_up (Some x) [] none end = end
used_up (Some x) (b ∷ bs) none end = absurd (omega (arith, none))

pub unchanged : (a b : Option (List ℕ)) → Keeps a b → Consumes a b []
unchanged None b same = tt
unchanged (Some x) None same = absurd same
unchanged (Some x) (Some y) same = sym same

-- a buffer was filled, and what is added to a line was used
pub piece_taken : (a rest : Option (List ℕ)) (shown before line : List ℕ) (n : ℕ) (end : Option LineEnd) → Keeps a (prepend_known shown rest)
    → (length shown ≡ 0 → IsAtEnd rest) → Adds before line shown n end → TakesPiece a (prepend_known (drop n shown) rest) before line end
piece_taken a rest shown before line n None same at_end (is, one) = (take n shown, is, one, used a rest shown n same)
piece_taken a rest shown before line n (Some Newline) same at_end (part, cutting, is, one) =
    (part, is, one, subst (Consumes a (prepend_known (drop n shown) rest)) cutting (used a rest shown n same))
piece_taken a rest shown before line n (Some Input) same at_end (is, nothing, none) = (
  is,
  subst (Consumes a (prepend_known (drop n shown) rest)) (ap (λ k. take k shown) nothing) (used a rest shown n same),
  used_up rest (drop n shown) (dropped_none shown n none) (at_end none),
)
  where
    dropped_none : (xs : List ℕ) (k : ℕ) → length xs ≡ 0 → length (drop k xs) ≡ 0
    dropped_none [] zero none = refl
    dropped_none [] (suc k) none = refl
    dropped_none (x ∷ xs) k none = absurd (omega (arith, none))
piece_taken a rest shown before line n (Some Failed) same at_end never = absurd never
piece_taken a rest shown before line n (Some NoMemory) same at_end h = tt

-- the line so far
pub record SoFar (old new : Option (List ℕ)) (line : List ℕ) : Type 0 where
  pub text : List ℕ
  pub is : line ≡ kept text
  pub one : IsOneLine text
  pub taken : Consumes old new text

pub nothing_so_far : (old : Option (List ℕ)) (line : List ℕ) → length line ≡ 0 → SoFar old old line
nothing_so_far old [] none = record { text = []; is = refl; one = λ k d less. absurd (omega (arith, less)); taken = Consumes-nil old }
nothing_so_far old (x ∷ xs) none = absurd (omega (arith, none))

pub more_so_far : (a b c : Option (List ℕ)) (before line : List ℕ) → SoFar a b before → TakesPiece b c before line None → SoFar a c line
more_so_far a b c before line so_far (part, is, one, taken) = record {
  text = so_far.text ++ part;
  is = kept_more so_far.text part before line so_far.is is;
  one = All-append (λ byte. byte ≢ 10) so_far.text part so_far.one one;
  taken = Consumes-trans a b c so_far.text part so_far.taken taken;
}

-- nothing more was taken
same_taken : (a b c : Option (List ℕ)) (text : List ℕ) → Consumes a b text → Consumes b c [] → Consumes a c text
same_taken a b c text taken none = subst (Consumes a c) (append-nil text) (Consumes-trans a b c text [] taken none)

pub line_taken : (a b c : Option (List ℕ)) (before line : List ℕ) (end : LineEnd) → SoFar a b before → TakesPiece b c before line (Some end) → TakesLine a c line end
line_taken a b c before line Newline so_far (part, is, one, taken) =
    let text = so_far.text in (
      text ++ part,
      kept_more text part before line so_far.is is,
      All-append (λ byte. byte ≢ 10) text part so_far.one one,
      subst (Consumes a c) (sym (append_assoc text part (10 ∷ []))) (Consumes-trans a b c text (ended part) so_far.taken taken),
    )
line_taken a b c before line Input so_far (same, none, at_end) =
    (so_far.text, same ∙ so_far.is, so_far.one, same_taken a b c so_far.text so_far.taken none, at_end)
line_taken a b c before line Failed so_far (same, none) = (so_far.text, so_far.one, same_taken a b c so_far.text so_far.taken none)
line_taken a b c before line NoMemory so_far h = tt
