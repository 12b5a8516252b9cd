-- The fields of lines: none has a byte below 43, so no space and no newline, and a line is taken
-- apart into them.
use Rattle.std.proofs.Common.{◌≡◌, ◌≢◌, ℕ, ◌<◌, ◌≤◌, List, [], ◌∷◌, length, codes, Option, Some, None, IfSome, refl, ap, ◌∙◌, arith}
use Rattle.std.specs.List.{All}
use Rattle.std.specs.Fmt.{decimal}
use Rattle.ipc_items.specs.declared.buffer_list.Substring.{Substring}
use Rattle.ipc_history.specs.CallParts.{CallParts}
use Rattle.ipc_lines.specs.Texts.{hex_text, id_text, words_text, strings_text, buffers_text}
use Rattle.std.specs.Prelude.{Bool, true, ◌&&◌, nat_lt}
use Rattle.std.proofs.lemmas.Bool.{and_parts}
use Rattle.std.proofs.lemmas.List.Elements.{All-nil, All-cons}
use Rattle.ipc_history.specs.declared.entry.Entry.{Entry}
use Rattle.ipc_history.specs.declared.entry.Entry.TheVariants.{Given, Written}
use Rattle.ipc_history.specs.declared.entry.Input.TheVariants.{At, Opened, Called, Exreg, Broke, Moved}
use Rattle.ipc_history.specs.declared.entry.Output.TheVariants.{Began, Turned, Ended, Overflowed, Aborted, Failed}
use Rattle.ipc_lines.specs.Lines.{spaced, call_fields, entry_fields, entry_text}
use Rattle.ipc_lines.specs.Reading.{parts_at, IsCall, IsBufferList, IsSubstring, IsReadable}
use borrow.Author.Tests.{ltb-true}
use Rattle.ipc_lines.proofs.ListTexts.{Lacks, AllLack, lack_nil, lack_cons, parts_join}
use Rattle.ipc_lines.proofs.High.{lacks, decimal_high, hex_high, id_high, words_high, strings_high, buffers_high}
use Rattle.ipc_words.specs.Timeouts.{timeouts_of}

buffers_apart : (buffers : Option (List (List Substring))) → IfSome buffers IsBufferList → IfSome buffers (λ list. All (λ parts. All IsSubstring parts) list)
buffers_apart None h = tt
buffers_apart (Some list) h = h.1

-- a text of lower-case letters
abbrev letters : List ℕ → Bool
letters [] = true
letters (b ∷ bs) = nat_lt 96 b && letters bs

-- a byte that stands in no field
module _ (s : ℕ) (low : s < 43) where
  pub decimal_lacks : (n : ℕ) → Lacks s (decimal n)
  decimal_lacks n = lacks s 48 (decimal n) (omega arith) (decimal_high n)

  pub hex_lacks : (n : ℕ) → Lacks s (hex_text n)
  hex_lacks n = lacks s 48 (hex_text n) (omega arith) (hex_high n)

  pub id_lacks : (n : ℕ) → Lacks s (id_text n)
  id_lacks n = lacks s 46 (id_text n) (omega arith) (id_high n)

  pub call_lacks : (thread : ℕ) (call : CallParts) → IsCall thread call → AllLack s (call_fields thread call)
  call_lacks thread call is =
      lack_cons _ _ (id_lacks thread) (lack_cons _ _ (id_lacks call.to) (lack_cons _ _ (id_lacks call.from) (lack_cons _ _ (hex_lacks (timeouts_of call.receive_period call.send_period)) (lack_cons _ _ (hex_lacks call.tag) (lack_cons _ _ (id_lacks call.originator)
      (lack_cons _ _ (lacks s 44 (words_text call.words) (omega arith) (words_high call.words is.words))
      (lack_cons _ _ (lacks s 44 (strings_text call.strings) (omega arith) (strings_high call.strings is.strings.1))
      (lack_cons _ _ (lacks s 43 (buffers_text call.buffers) (omega arith) (buffers_high call.buffers (buffers_apart call.buffers is.buffers))) lack_nil))))))))

  pub letters_lack : (text : List ℕ) → letters text ≡ true → Lacks s text
  letters_lack [] h = All-nil (λ b. b ≢ s)
  letters_lack (b ∷ bs) h =
      let p = and_parts (nat_lt 96 b) (letters bs) h in
      let above : 96 < b = ltb-true 96 b p.0 in
      All-cons (λ x. x ≢ s) b bs (λ e. omega arith) (letters_lack bs p.1)

  pub lack_one : (name x : List ℕ) → Lacks s name → Lacks s x → AllLack s (name ∷ x ∷ [])
  lack_one name x n h = lack_cons name _ n (lack_cons x _ h lack_nil)

  pub lack_two : (name x y : List ℕ) → Lacks s name → Lacks s x → Lacks s y → AllLack s (name ∷ x ∷ y ∷ [])
  lack_two name x y n h k = lack_cons name _ n (lack_one x y h k)

  pub lack_three : (name x y z : List ℕ) → Lacks s name → Lacks s x → Lacks s y → Lacks s z → AllLack s (name ∷ x ∷ y ∷ z ∷ [])
  lack_three name x y z n h k l = lack_cons name _ n (lack_two x y z h k l)

  entry_lacks : (entry : Entry) → IsReadable entry → AllLack s (entry_fields entry)
  entry_lacks (Given (At moment)) h = lack_one (codes "at") _ (letters_lack (codes "at") refl) (decimal_lacks moment)
  entry_lacks (Given (Opened thread space)) h = lack_two (codes "opened") _ _ (letters_lack (codes "opened") refl) (id_lacks thread) (decimal_lacks space)
  entry_lacks (Given (Called number thread call)) h = lack_cons (codes "called") _ (letters_lack (codes "called") refl) (lack_cons _ _ (decimal_lacks number) (call_lacks thread call h.1))
  entry_lacks (Given (Exreg thread dest control)) h = lack_three (codes "exreg") _ _ _ (letters_lack (codes "exreg") refl) (id_lacks thread) (id_lacks dest) (hex_lacks control)
  entry_lacks (Given (Broke thread)) h = lack_one (codes "broke") _ (letters_lack (codes "broke") refl) (id_lacks thread)
  entry_lacks (Given (Moved number count)) h = lack_two (codes "moved") _ _ (letters_lack (codes "moved") refl) (decimal_lacks number) (decimal_lacks count)
  entry_lacks (Written (Began sending receiving)) h = lack_two (codes "began") _ _ (letters_lack (codes "began") refl) (decimal_lacks sending) (decimal_lacks receiving)
  entry_lacks (Written (Turned receiving thread)) h = lack_two (codes "turned") _ _ (letters_lack (codes "turned") refl) (decimal_lacks receiving) (id_lacks thread)
  entry_lacks (Written (Ended sending receiving)) h = lack_two (codes "ended") _ _ (letters_lack (codes "ended") refl) (decimal_lacks sending) (decimal_lacks receiving)
  entry_lacks (Written (Overflowed sending receiving offset)) h = lack_three (codes "overflowed") _ _ _ (letters_lack (codes "overflowed") refl) (decimal_lacks sending) (decimal_lacks receiving) (decimal_lacks offset)
  entry_lacks (Written (Aborted sending receiving count)) h = lack_three (codes "aborted") _ _ _ (letters_lack (codes "aborted") refl) (decimal_lacks sending) (decimal_lacks receiving) (decimal_lacks count)
  entry_lacks (Written (Failed number code)) h = lack_two (codes "failed") _ _ (letters_lack (codes "failed") refl) (decimal_lacks number) (hex_lacks code)

-- spaced fields, taken apart
pub spaced_parts : (line : List ℕ) (fields : List (List ℕ)) → 0 < length fields → AllLack 32 fields → line ≡ spaced fields → parts_at 32 line ≡ fields
spaced_parts line [] some h e = absurd (omega arith)
spaced_parts line (f ∷ fs) some h e = ap (parts_at 32) e ∙ parts_join 32 f fs h

pub entry_count : (entry : Entry) → (0 < length (entry_fields entry)) × (length (entry_fields entry) ≤ 11)
entry_count (Given (At moment)) = (omega arith, omega arith)
entry_count (Given (Opened thread space)) = (omega arith, omega arith)
entry_count (Given (Called number thread call)) = (omega arith, omega arith)
entry_count (Given (Exreg thread dest control)) = (omega arith, omega arith)
entry_count (Given (Broke thread)) = (omega arith, omega arith)
entry_count (Given (Moved number count)) = (omega arith, omega arith)
entry_count (Written (Began sending receiving)) = (omega arith, omega arith)
entry_count (Written (Turned receiving thread)) = (omega arith, omega arith)
entry_count (Written (Ended sending receiving)) = (omega arith, omega arith)
entry_count (Written (Overflowed sending receiving offset)) = (omega arith, omega arith)
entry_count (Written (Aborted sending receiving count)) = (omega arith, omega arith)
entry_count (Written (Failed number code)) = (omega arith, omega arith)

pub entry_parts : (line : List ℕ) (entry : Entry) → IsReadable entry → line ≡ entry_text entry → parts_at 32 line ≡ entry_fields entry
entry_parts line entry h e = spaced_parts line (entry_fields entry) (entry_count entry).0 (entry_lacks 32 (omega arith) entry h) e
