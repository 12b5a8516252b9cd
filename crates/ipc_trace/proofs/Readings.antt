-- What reading a line of a part says.
use Rattle.std.proofs.Common.{◌≡◌, ℕ, ◌+◌, ◌≤◌, ◌<◌, ◌^◌, Bool, true, false, IsTrue, Option, Some, None, IfSome, List, Result, Ok, Err, OnOk, IsErrOf, MatchResult, ◌⊎◌, length, get_or, refl, sym, ap, ◌∙◌, arith}
use Rattle.std.specs.Prelude.{◌&&◌}
use Rattle.std.proofs.Common.{inl, inr}
use Rattle.std.proofs.lemmas.Bool.{and_parts}
use Rattle.std.proofs.lemmas.List.{take_all}
use Rattle.ipc_words.specs.Limits.{max_line_bytes}
use Rattle.ipc_lines.specs.Reading.{IsWord}
use Rattle.ipc_lines.specs.declared.reading.LineFault.{LineFault}
use Rattle.ipc_lines.specs.declared.reading.LineFault.TheVariants as fault
use Rattle.ipc_trace.specs.Reading.{kept}
use Rattle.ipc_trace.specs.Lines.{IsReadableLine, line_text, may_stand}
use Rattle.ipc_trace.specs.PartReading.{ReadsLine, Spells, SpellsNumber}
use Rattle.ipc_trace.specs.Steps.{PartSoFar, after, may_follow, number_fits}
use Rattle.ipc_trace.specs.declared.line.PartLine.{PartLine}
use Rattle.ipc_trace.specs.declared.line.PartLine.TheVariants as line
use Rattle.ipc_trace.specs.declared.line.Stage.{Stage}
use Rattle.ipc_trace.specs.declared.line.Stage.TheVariants as stage
use Rattle.ipc_trace.proofs.Standing.{at_numbers, at_overs}
use Rattle.ipc_trace.proofs.Texts.{line_length}

-- the line of a thread number was read: no other line has this text
pub number_only : (text : List ℕ) (answer : Option PartLine) (read : PartLine) → answer ≡ Some read → IfSome answer (SpellsNumber text)
    → ((k v d : ℕ) → IsWord k → v < 2 ^ 32 → IsWord d → text ≡ line_text (line.Number k v d) → answer ≡ Some (line.Number k v d))
    → (other : PartLine) → IsReadableLine other → Spells stage.Numbers text other → Some read ≡ Some other
number_only text None read is found only other readable spells = cc
number_only text (Some x) read is found only other readable (stands, spelled) =
    at_numbers (λ o. IsReadableLine o → text ≡ line_text o → Some read ≡ Some o)
    (λ k v d numbers same. sym is ∙ only k v d numbers.0 numbers.1 numbers.2 same)
    (at_overs (λ o. IsReadableLine o → text ≡ line_text o → Some read ≡ Some o)
    (λ n word same. absurd (omega (arith, ap (λ l. get_or l 0 0) (sym found.1.1 ∙ same))))
    (λ word same. absurd (omega (arith, ap (λ l. get_or l 0 0) (sym found.1.1 ∙ same)))))
    other stands readable spelled

-- what is kept of a line that can be read is all of it
whole_is : (text whole : List ℕ) (read : PartLine) → text ≡ kept whole → IsReadableLine read → whole ≡ line_text read → text ≡ line_text read
whole_is text whole read is readable spelled =
    is ∙ take_all (max_line_bytes + 1) whole (omega (arith, ap length spelled, line_length read readable)) ∙ spelled

stands_of : (so_far : PartSoFar) (read : PartLine) → IsTrue (may_follow so_far read) → IsTrue (may_stand so_far.stage read)
stands_of so_far read follows = (and_parts (may_stand so_far.stage read) (number_fits so_far.base read) follows).0

fits_of : (so_far : PartSoFar) (read : PartLine) → IsTrue (may_follow so_far read) → number_fits so_far.base read ≡ true
fits_of so_far read follows = (and_parts (may_stand so_far.stage read) (number_fits so_far.base read) follows).1

-- what the reading of a text says of every line
abbrev pub ReadsOnly : Stage → List ℕ → Result PartLine LineFault → Type 0
ReadsOnly at text result =
    (read : PartLine) → IsReadableLine read → Spells at text read → (result ≡ Ok read) ⊎ (result ≡ Err fault.NoMemory)

not_bad : (result : Result PartLine LineFault) (read : PartLine) → result ≡ Err fault.Bad → (result ≡ Ok read) ⊎ (result ≡ Err fault.NoMemory) → ⊥
not_bad result read bad (inl is) = cc
not_bad result read bad (inr is) = cc

pub not_read : (old new : PartSoFar) (text : List ℕ) (result : Result PartLine LineFault) (wrong : LineFault) → ReadsOnly old.stage text result → result ≡ Err wrong
    → ReadsLine old new text (Err wrong)
not_read old new text result fault.NoMemory only is = tt
not_read old new text result fault.Bad only is = λ whole kept_is read readable follows spelled.
    not_bad result read is (only read readable (stands_of old read follows, whole_is text whole read kept_is readable spelled))

same_read : (result : Result PartLine LineFault) (read other : PartLine) → result ≡ Ok read → (result ≡ Ok other) ⊎ (result ≡ Err fault.NoMemory) → read ≡ other
same_read result read other is (inl also) = cc
same_read result read other is (inr none) = cc

true_and_true : (a b : Bool) → IsTrue a → b ≡ true → IsTrue (a && b)
true_and_true a b p q = cc

pub was_read : (old new : PartSoFar) (text : List ℕ) (result : Result PartLine LineFault) (read : PartLine) (done : Result (Unit {0}) LineFault) → ReadsOnly old.stage text result
    → result ≡ Ok read → Spells old.stage text read → length text ≤ max_line_bytes → OnOk done ((number_fits old.base read ≡ true) × (new ≡ after old read))
    → (IsErrOf done fault.Bad → number_fits old.base read ≡ false) → ReadsLine old new text done
was_read old new text result read (Ok x) only is spells short entered bad = (
  read,
  true_and_true (may_stand old.stage read) (number_fits old.base read) spells.0 entered.0,
  spells.1,
  short,
  entered.1,
  λ other readable follows same. same_read result read other is (only other readable (stands_of old other follows, spells.1 ∙ same)),
)
was_read old new text result read (Err fault.NoMemory) only is spells short entered bad = tt
was_read old new text result read (Err fault.Bad) only is spells short entered bad = λ whole kept_is other readable follows spelled.
    let same = same_read result read other is (only other readable (stands_of old other follows, whole_is text whole other kept_is readable spelled)) in
    let fits : number_fits old.base read ≡ true = ap (number_fits old.base) same ∙ fits_of old other follows in
    let no : number_fits old.base read ≡ false = bad refl in
    absurd (true_is_not_false (number_fits old.base read) fits no)
  where
    true_is_not_false : (b : Bool) → b ≡ true → b ≡ false → ⊥
    true_is_not_false b p q = cc

-- where nothing but this can be a fault
pub no_fault : {X E : Type 0} (P : X → Type 0) (Q : E → Type 0) (result : Result X E) → MatchResult result P (λ wrong. ⊥) → MatchResult result P Q
no_fault P Q (Ok x) holds = holds
no_fault P Q (Err wrong) holds = absurd holds
