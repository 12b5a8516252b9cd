-- Two values are not spelled alike.
use Rattle.std.proofs.Common.{◌≡◌, ◌≢◌, ℕ, ◌+◌, ◌<◌, ◌≤◌, false, List, [], ◌∷◌, ◌++◌, length, get_or, drop, map, codes, Option, Some, None, IfSome, append_assoc, length-append, refl, sym, ap, ◌∙◌, arith}
use Rattle.std.specs.Prelude.{◌==◌}
use Rattle.std.specs.Fmt.{decimal}
use Rattle.std.specs.Str.Parse.{digits_value}
use Rattle.std.specs.List.{All, position_or_len, join_with_byte}
use Rattle.std.proofs.lemmas.Fmt.{decimal_injective, digits_is_IsNumeral}
use Rattle.std.proofs.lemmas.List.Elements.{All-head, All-tail, All-weaker, All-nil, All-cons}
use Rattle.hex.specs.Hex.{IsBytes, decode_of, encode_lower}
use Rattle.hex.proofs.HexLemmas.{decode_of-encode_lower, decode_of-same}
use Rattle.ipc_words.specs.ThreadId.{number_of, version_of}
use Rattle.ipc_words.specs.Timeouts.{timeouts_of}
use Rattle.ipc_items.specs.declared.buffer_list.Substring.{Substring}
use Rattle.ipc_lines.specs.Texts.{hex_text, id_text, listed, words_text, bytes_text, strings_text, substring_text, buffer_text, buffers_text}
use Rattle.ipc_lines.specs.Reading.{parts_at, IsCall, IsReadable, IsWord, AreWords, IsSubstring, IsBufferList}
use Rattle.ipc_history.specs.CallParts.{CallParts}
use Rattle.ipc_history.specs.declared.entry.Entry.{Entry}
use Rattle.ipc_history.specs.declared.entry.Entry.TheVariants.{Given, Written}
use Rattle.ipc_history.specs.declared.entry.Input.TheVariants.{At, Opened, Called, Exreg, Broke, Moved}
use Rattle.ipc_history.specs.declared.entry.Output.TheVariants.{Began, Turned, Ended, Overflowed, Aborted, Failed}
use Rattle.ipc_lines.specs.Lines.{call_fields, entry_fields, entry_text}
use Rattle.ipc_lines.specs.Spelling.{EachHasOneLine}
use Rattle.ipc_lines.proofs.EntryNaming.{at_only, opened_only, called_only, exreg_only, broke_only, moved_only, began_only, turned_only, ended_only, overflowed_only, aborted_only, failed_only}
use Rattle.ipc_lines.proofs.Spacing.{entry_parts}
use Rattle.ipc_lines.proofs.Cuts.{first_at, cut_at}
use Rattle.ipc_lines.proofs.High.{lacks, hex_high, bytes_high, substring_high, buffer_lacks}
use Rattle.ipc_lines.proofs.Ids.{IdForm, is_nil, is_any, is_local, is_plain, is_numbered, id_form, hex_not_numbered}
use Rattle.ipc_lines.proofs.Limits.{masked_word, IsRow, buffer_rows}
use Rattle.ipc_lines.proofs.ListTexts.{Lacks, map_lacks, listed_none, parts_join}
use Rattle.ipc_lines.proofs.Numerals.{digits_high, decimal_low}

-- texts that a byte cuts at the first place
cut_same : (byte : ℕ) (f b g d : List ℕ) → Lacks byte f → Lacks byte g → f ++ byte ∷ b ≡ g ++ byte ∷ d → (f ≡ g) × (b ≡ d)
cut_same byte f b g d lf lg e =
    let len : length f ≡ length g = sym (first_at byte f b lf) ∙ ap (position_or_len (λ other. other == byte)) e ∙ first_at byte g d lg in
    let one = cut_at (f ++ byte ∷ b) f b byte (length f) refl refl in
    let two = cut_at (f ++ byte ∷ b) g d byte (length f) len e in
    (sym one.0 ∙ two.0, sym one.1 ∙ two.1)

pub hex_same : (a b : ℕ) → IsWord a → IsWord b → hex_text a ≡ hex_text b → a ≡ b
hex_same a b ha hb e =
    sym (digits_is_IsNumeral 16 false (omega arith) (omega arith) a (omega arith)).1 ∙ ap (λ l. digits_value 16 (drop 2 l)) e ∙ (digits_is_IsNumeral 16 false (omega arith) (omega arith) b (omega arith)).1

no_point : (n : ℕ) → Lacks 46 (decimal n)
no_point n = lacks 46 48 (decimal n) (omega arith) (digits_high 10 (omega arith) n)

no_at : (n : ℕ) → Lacks 64 (decimal n)
no_at n = All-weaker (λ b. b < 58) (λ b. b ≢ 64) (λ b h e. omega arith) (decimal n) (decimal_low n)

first_low : (ds back : List ℕ) → All (λ b. b < 58) ds → get_or (ds ++ codes "." ++ back) 0 0 < 58
first_low [] back low = omega arith
first_low (d ∷ ds) back low = low 0 0 (omega arith)

pub id_same : (a b : ℕ) → IsWord a → IsWord b → id_text a ≡ id_text b → a ≡ b
id_same a b ha hb e = both (id_form a) (id_form b)
  where
    both : IdForm a → IdForm b → a ≡ b
    both (is_nil p1 q1) (is_nil p2 q2) = p1 ∙ sym p2
    both (is_nil p1 q1) (is_any p2 q2) = absurd (omega (arith, ap (λ l. get_or l 0 0) (sym q1 ∙ e ∙ q2)))
    both (is_nil p1 q1) (is_local p2 q2) = absurd (omega (arith, ap (λ l. get_or l 0 0) (sym q1 ∙ e ∙ q2)))
    both (is_nil p1 q1) (is_plain p2 q2 r2) = absurd (omega (arith, ap (λ l. get_or l 0 0) (sym q1 ∙ e ∙ r2)))
    both (is_nil p1 q1) (is_numbered p2 q2) = absurd (omega (arith, ap (λ l. get_or l 0 0) (sym q1 ∙ e ∙ q2), first_low (decimal (number_of b)) (decimal (version_of b)) (decimal_low (number_of b))))
    both (is_any p1 q1) (is_nil p2 q2) = absurd (omega (arith, ap (λ l. get_or l 0 0) (sym q1 ∙ e ∙ q2)))
    both (is_any p1 q1) (is_any p2 q2) = p1 ∙ sym p2
    both (is_any p1 q1) (is_local p2 q2) = absurd (omega (arith, ap (λ l. get_or l 0 0) (sym q1 ∙ e ∙ q2)))
    both (is_any p1 q1) (is_plain p2 q2 r2) = absurd (omega (arith, ap (λ l. get_or l 0 0) (sym q1 ∙ e ∙ r2)))
    both (is_any p1 q1) (is_numbered p2 q2) = absurd (omega (arith, ap (λ l. get_or l 0 0) (sym q1 ∙ e ∙ q2), first_low (decimal (number_of b)) (decimal (version_of b)) (decimal_low (number_of b))))
    both (is_local p1 q1) (is_nil p2 q2) = absurd (omega (arith, ap (λ l. get_or l 0 0) (sym q1 ∙ e ∙ q2)))
    both (is_local p1 q1) (is_any p2 q2) = absurd (omega (arith, ap (λ l. get_or l 0 0) (sym q1 ∙ e ∙ q2)))
    both (is_local p1 q1) (is_local p2 q2) = p1 ∙ sym p2
    both (is_local p1 q1) (is_plain p2 q2 r2) = absurd (omega (arith, ap (λ l. get_or l 0 0) (sym q1 ∙ e ∙ r2)))
    both (is_local p1 q1) (is_numbered p2 q2) = absurd (omega (arith, ap (λ l. get_or l 0 0) (sym q1 ∙ e ∙ q2), first_low (decimal (number_of b)) (decimal (version_of b)) (decimal_low (number_of b))))
    both (is_plain p1 q1 r1) (is_nil p2 q2) = absurd (omega (arith, ap (λ l. get_or l 0 0) (sym r1 ∙ e ∙ q2)))
    both (is_plain p1 q1 r1) (is_any p2 q2) = absurd (omega (arith, ap (λ l. get_or l 0 0) (sym r1 ∙ e ∙ q2)))
    both (is_plain p1 q1 r1) (is_local p2 q2) = absurd (omega (arith, ap (λ l. get_or l 0 0) (sym r1 ∙ e ∙ q2)))
    both (is_plain p1 q1 r1) (is_plain p2 q2 r2) = hex_same a b ha hb (sym r1 ∙ e ∙ r2)
    both (is_plain p1 q1 r1) (is_numbered p2 q2) = absurd (hex_not_numbered a (number_of b) (decimal (version_of b)) (sym r1 ∙ e ∙ q2))
    both (is_numbered p1 q1) (is_nil p2 q2) = absurd (omega (arith, ap (λ l. get_or l 0 0) (sym q1 ∙ e ∙ q2), first_low (decimal (number_of a)) (decimal (version_of a)) (decimal_low (number_of a))))
    both (is_numbered p1 q1) (is_any p2 q2) = absurd (omega (arith, ap (λ l. get_or l 0 0) (sym q1 ∙ e ∙ q2), first_low (decimal (number_of a)) (decimal (version_of a)) (decimal_low (number_of a))))
    both (is_numbered p1 q1) (is_local p2 q2) = absurd (omega (arith, ap (λ l. get_or l 0 0) (sym q1 ∙ e ∙ q2), first_low (decimal (number_of a)) (decimal (version_of a)) (decimal_low (number_of a))))
    both (is_numbered p1 q1) (is_plain p2 q2 r2) = absurd (hex_not_numbered b (number_of a) (decimal (version_of a)) (sym (sym q1 ∙ e ∙ r2)))
    both (is_numbered p1 q1) (is_numbered p2 q2) =
        let parts = cut_same 46 (decimal (number_of a)) (decimal (version_of a)) (decimal (number_of b)) (decimal (version_of b)) (no_point (number_of a)) (no_point (number_of b))
        (sym (append_assoc (decimal (number_of a)) (46 ∷ []) (decimal (version_of a))) ∙ (sym q1 ∙ e ∙ q2) ∙ append_assoc (decimal (number_of b)) (46 ∷ []) (decimal (version_of b))) in
        let number = decimal_injective (number_of a) (number_of b) (omega arith) (omega arith) parts.0 in
        let version = decimal_injective (version_of a) (version_of b) (omega arith) (omega arith) parts.1 in
        omega (arith, number, version)

pub bytes_same : (xs ys : List ℕ) → IsBytes xs → IsBytes ys → bytes_text xs ≡ bytes_text ys → xs ≡ ys
bytes_same xs ys hx hy e = decode_of-same (encode_lower xs) xs ys (decode_of-encode_lower xs hx) (ap decode_of (ap (drop 1) e) ∙ decode_of-encode_lower ys hy)

pub substring_same : (a b : Substring) → IsSubstring a → IsSubstring b → substring_text a ≡ substring_text b → a ≡ b
substring_same a b ha hb e =
    let parts = cut_same 64 (decimal a.length) (hex_text a.pointer) (decimal b.length) (hex_text b.pointer) (no_at a.length) (no_at b.length)
    (sym (append_assoc (decimal a.length) (64 ∷ []) (hex_text a.pointer)) ∙ e ∙ append_assoc (decimal b.length) (64 ∷ []) (hex_text b.pointer)) in
    let l = decimal_injective a.length b.length ha.0 hb.0 parts.0 in
    let p = hex_same a.pointer b.pointer ha.1 hb.1 parts.1 in
    λ i. record { length = l i; pointer = p i }

module _ {X : Type 0} (none : List ℕ) (separator : ℕ) (text : X → List ℕ) (P : X → Type 0) (lack : (x : X) → P x → Lacks separator (text x))
    (same : (x y : X) → P x → P y → text x ≡ text y → x ≡ y) where
  map_same : (xs ys : List X) → All P xs → All P ys → map text xs ≡ map text ys → xs ≡ ys
  map_same [] [] hx hy e = refl
  map_same [] (y ∷ ys) hx hy e = cc
  map_same (x ∷ xs) [] hx hy e = cc
  map_same (x ∷ xs) (y ∷ ys) hx hy e =
      let first : text x ≡ text y = cc in
      let rest : map text xs ≡ map text ys = cc in
      let a = same x y (All-head P x xs hx) (All-head P y ys hy) first in
      let b = map_same xs ys (All-tail P x xs hx) (All-tail P y ys hy) rest in
      λ i. a i ∷ b i

  pub joined_same : (x y : X) (xs ys : List X) → All P (x ∷ xs) → All P (y ∷ ys) → join_with_byte separator (map text (x ∷ xs)) ≡ join_with_byte separator (map text (y ∷ ys)) → x ∷ xs ≡ y ∷ ys
  joined_same x y xs ys hx hy e = map_same (x ∷ xs) (y ∷ ys) hx hy
      (sym (parts_join separator (text x) (map text xs) (map_lacks none separator text P lack (x ∷ xs) hx)) ∙ ap (parts_at separator) e ∙ parts_join separator (text y) (map text ys) (map_lacks none separator text P lack (y ∷ ys) hy))

  pub listed_same : Lacks separator none → ((x : X) → P x → text x ≡ none → ⊥) → (xs ys : List X) → All P xs → All P ys → listed none separator text xs ≡ listed none separator text ys → xs ≡ ys
  listed_same clean other [] ys hx hy e = sym (listed_none none separator text P lack none ys hy clean other refl e)
  listed_same clean other (x ∷ xs) [] hx hy e = listed_none none separator text P lack none (x ∷ xs) hx clean other refl (sym e)
  listed_same clean other (x ∷ xs) (y ∷ ys) hx hy e = joined_same x y xs ys hx hy e

one_lacks : (s b : ℕ) → (b ≡ s → ⊥) → Lacks s (b ∷ [])
one_lacks s b h = All-cons (λ x. x ≢ s) b [] h (All-nil (λ x. x ≢ s))

pub words_same : (xs ys : List ℕ) → AreWords xs → AreWords ys → words_text xs ≡ words_text ys → xs ≡ ys
words_same xs ys hx hy e = listed_same (codes "-") 44 hex_text IsWord (λ n w. lacks 44 48 (hex_text n) (omega arith) (hex_high n)) hex_same
    (one_lacks 44 45 (λ z. omega arith)) (λ n w z. omega (arith, ap (λ l. get_or l 0 0) z)) xs ys hx hy e

pub strings_same : (xs ys : List (List ℕ)) → All IsBytes xs → All IsBytes ys → strings_text xs ≡ strings_text ys → xs ≡ ys
strings_same xs ys hx hy e = listed_same (codes "-") 44 bytes_text IsBytes (λ n w. lacks 44 48 (bytes_text n) (omega arith) (bytes_high n w)) bytes_same
    (one_lacks 44 45 (λ z. omega arith)) (λ n w z. omega (arith, ap (λ l. get_or l 0 0) z)) xs ys hx hy e

buffer_long : (list : List Substring) → 0 < length list → 2 ≤ length (buffer_text list)
buffer_long [] some = absurd (omega arith)
buffer_long (x ∷ []) some =
    let l : length (substring_text x) ≡ length (decimal x.length ++ codes "@") + length (hex_text x.pointer) = length-append (decimal x.length ++ codes "@") (hex_text x.pointer) in
    let h : 2 ≤ length (hex_text x.pointer) = omega arith in
    omega arith
buffer_long (x ∷ y ∷ ys) some =
    let l : length (substring_text x) ≡ length (decimal x.length ++ codes "@") + length (hex_text x.pointer) = length-append (decimal x.length ++ codes "@") (hex_text x.pointer) in
    let h : 2 ≤ length (hex_text x.pointer) = omega arith in
    let w = length-append (substring_text x) (43 ∷ join_with_byte 43 (map substring_text (y ∷ ys))) in
    omega (arith, w)

row_same : (xs ys : List Substring) → IsRow xs → IsRow ys → buffer_text xs ≡ buffer_text ys → xs ≡ ys
row_same [] ys hx hy e = absurd (omega (arith, hx.1))
row_same (x ∷ xs) [] hx hy e = absurd (omega (arith, hy.1))
row_same (x ∷ xs) (y ∷ ys) hx hy e = joined_same [] 43 substring_text IsSubstring (λ part s. lacks 43 48 (substring_text part) (omega arith) (substring_high part)) substring_same x y xs ys hx.0 hy.0 e

row_lacks : (parts : List Substring) → IsRow parts → Lacks 44 (buffer_text parts)
row_lacks parts h = buffer_lacks parts h.0

row_other : (b : ℕ) (parts : List Substring) → IsRow parts → buffer_text parts ≡ b ∷ [] → ⊥
row_other b parts h e = omega (arith, buffer_long parts h.1, ap length e)

some_not : (list : List (List Substring)) → All IsRow list → codes "-" ≡ buffers_text (Some list) → ⊥
some_not [] h e = omega (arith, ap (λ l. get_or l 0 0) e)
some_not (x ∷ xs) h e =
    let z : x ∷ xs ≡ [] = listed_none (codes "-") 44 buffer_text IsRow row_lacks (codes "-") (x ∷ xs) h (one_lacks 44 45 (λ q. omega arith)) (row_other 45) refl e in
    cc

pub buffers_same : (a b : Option (List (List Substring))) → IfSome a IsBufferList → IfSome b IsBufferList → buffers_text a ≡ buffers_text b → a ≡ b
buffers_same None None ha hb e = refl
buffers_same None (Some ys) ha hb e = absurd (some_not ys (buffer_rows ys hb) e)
buffers_same (Some xs) None ha hb e = absurd (some_not xs (buffer_rows xs ha) (sym e))
buffers_same (Some xs) (Some ys) ha hb e = ap Some (listed_same (codes "s") 44 buffer_text IsRow row_lacks row_same (one_lacks 44 115 (λ q. omega arith)) (row_other 115) xs ys (buffer_rows xs ha) (buffer_rows ys hb) e)

timeouts_word : (call : CallParts) (thread : ℕ) → IsCall thread call → IsWord (timeouts_of call.receive_period call.send_period)
timeouts_word call thread h = omega (arith, h.send_period, h.receive_period)

pub call_same : (t u : ℕ) (c d : CallParts) → IsCall t c → IsCall u d → call_fields t c ≡ call_fields u d → (t ≡ u) × (c ≡ d)
call_same t u c d hc hd e =
    let thread = id_same t u hc.thread_word hd.thread_word (ap (λ fs. get_or fs 0 []) e) in
    let to = id_same c.to d.to hc.to hd.to (ap (λ fs. get_or fs 1 []) e) in
    let from = id_same c.from d.from hc.from hd.from (ap (λ fs. get_or fs 2 []) e) in
    let timeouts = hex_same (timeouts_of c.receive_period c.send_period) (timeouts_of d.receive_period d.send_period) (timeouts_word c t hc) (timeouts_word d u hd) (ap (λ fs. get_or fs 3 []) e) in
    let send : c.send_period ≡ d.send_period = omega (arith, timeouts, hc.send_period, hc.receive_period, hd.send_period, hd.receive_period) in
    let receive : c.receive_period ≡ d.receive_period = omega (arith, timeouts, hc.send_period, hc.receive_period, hd.send_period, hd.receive_period) in
    let tag = hex_same c.tag d.tag hc.tag hd.tag (ap (λ fs. get_or fs 4 []) e) in
    let originator = id_same c.originator d.originator hc.originator hd.originator (ap (λ fs. get_or fs 5 []) e) in
    let words = words_same c.words d.words hc.words hd.words (ap (λ fs. get_or fs 6 []) e) in
    let strings = strings_same c.strings d.strings hc.strings.1 hd.strings.1 (ap (λ fs. get_or fs 7 []) e) in
    let buffers = buffers_same c.buffers d.buffers hc.buffers hd.buffers (ap (λ fs. get_or fs 8 []) e) in
    (thread, λ i. record { to = to i; from = from i; send_period = send i; receive_period = receive i; tag = tag i; originator = originator i; words = words i; strings = strings i; buffers = buffers i })

fields_same : (a b : Entry) → IsReadable a → IsReadable b → entry_fields a ≡ entry_fields b → a ≡ b
fields_same (Given (At moment)) other ha hb e =
    let k = at_only other (drop 1 (entry_fields (Given (At moment)))) hb e in
    let x0 = decimal_injective moment k.0 ha k.1 (ap (λ fs. get_or fs 0 []) k.3) in
    (λ i. Given (At (x0 i))) ∙ k.2
fields_same (Given (Opened thread space)) other ha hb e =
    let k = opened_only other (drop 1 (entry_fields (Given (Opened thread space)))) hb e in
    let x0 = id_same thread k.0 ha.0 k.2.0 (ap (λ fs. get_or fs 0 []) k.4) in
    let x1 = decimal_injective space k.1 ha.1 k.2.1 (ap (λ fs. get_or fs 1 []) k.4) in
    (λ i. Given (Opened (x0 i) (x1 i))) ∙ k.3
fields_same (Given (Called number thread call)) other ha hb e =
    let k = called_only other (drop 1 (entry_fields (Given (Called number thread call)))) hb e in
    let f = sym k.5 in
    let n = decimal_injective k.0 number k.3.0 ha.0 (ap (λ fs. get_or fs 0 []) f) in
    let c = call_same k.1 thread k.2 call k.3.1 ha.1 (ap (drop 1) f) in
    (λ i. Given (Called (sym n i) (sym c.0 i) (sym c.1 i))) ∙ k.4
fields_same (Given (Exreg thread dest control)) other ha hb e =
    let k = exreg_only other (drop 1 (entry_fields (Given (Exreg thread dest control)))) hb e in
    let x0 = id_same thread k.0 ha.0 k.3.0 (ap (λ fs. get_or fs 0 []) k.5) in
    let x1 = id_same dest k.1 ha.1 k.3.1 (ap (λ fs. get_or fs 1 []) k.5) in
    let x2 = hex_same control k.2 (masked_word control ha.2) (masked_word k.2 k.3.2) (ap (λ fs. get_or fs 2 []) k.5) in
    (λ i. Given (Exreg (x0 i) (x1 i) (x2 i))) ∙ k.4
fields_same (Given (Broke thread)) other ha hb e =
    let k = broke_only other (drop 1 (entry_fields (Given (Broke thread)))) hb e in
    let x0 = id_same thread k.0 ha k.1 (ap (λ fs. get_or fs 0 []) k.3) in
    (λ i. Given (Broke (x0 i))) ∙ k.2
fields_same (Given (Moved number count)) other ha hb e =
    let k = moved_only other (drop 1 (entry_fields (Given (Moved number count)))) hb e in
    let x0 = decimal_injective number k.0 ha.0 k.2.0 (ap (λ fs. get_or fs 0 []) k.4) in
    let x1 = decimal_injective count k.1 ha.1 k.2.1 (ap (λ fs. get_or fs 1 []) k.4) in
    (λ i. Given (Moved (x0 i) (x1 i))) ∙ k.3
fields_same (Written (Began sending receiving)) other ha hb e =
    let k = began_only other (drop 1 (entry_fields (Written (Began sending receiving)))) hb e in
    let x0 = decimal_injective sending k.0 ha.0 k.2.0 (ap (λ fs. get_or fs 0 []) k.4) in
    let x1 = decimal_injective receiving k.1 ha.1 k.2.1 (ap (λ fs. get_or fs 1 []) k.4) in
    (λ i. Written (Began (x0 i) (x1 i))) ∙ k.3
fields_same (Written (Turned receiving thread)) other ha hb e =
    let k = turned_only other (drop 1 (entry_fields (Written (Turned receiving thread)))) hb e in
    let x0 = decimal_injective receiving k.0 ha.0 k.2.0 (ap (λ fs. get_or fs 0 []) k.4) in
    let x1 = id_same thread k.1 ha.1 k.2.1 (ap (λ fs. get_or fs 1 []) k.4) in
    (λ i. Written (Turned (x0 i) (x1 i))) ∙ k.3
fields_same (Written (Ended sending receiving)) other ha hb e =
    let k = ended_only other (drop 1 (entry_fields (Written (Ended sending receiving)))) hb e in
    let x0 = decimal_injective sending k.0 ha.0 k.2.0 (ap (λ fs. get_or fs 0 []) k.4) in
    let x1 = decimal_injective receiving k.1 ha.1 k.2.1 (ap (λ fs. get_or fs 1 []) k.4) in
    (λ i. Written (Ended (x0 i) (x1 i))) ∙ k.3
fields_same (Written (Overflowed sending receiving offset)) other ha hb e =
    let k = overflowed_only other (drop 1 (entry_fields (Written (Overflowed sending receiving offset)))) hb e in
    let x0 = decimal_injective sending k.0 ha.0 k.3.0 (ap (λ fs. get_or fs 0 []) k.5) in
    let x1 = decimal_injective receiving k.1 ha.1 k.3.1 (ap (λ fs. get_or fs 1 []) k.5) in
    let x2 = decimal_injective offset k.2 ha.2 k.3.2 (ap (λ fs. get_or fs 2 []) k.5) in
    (λ i. Written (Overflowed (x0 i) (x1 i) (x2 i))) ∙ k.4
fields_same (Written (Aborted sending receiving count)) other ha hb e =
    let k = aborted_only other (drop 1 (entry_fields (Written (Aborted sending receiving count)))) hb e in
    let x0 = decimal_injective sending k.0 ha.0 k.3.0 (ap (λ fs. get_or fs 0 []) k.5) in
    let x1 = decimal_injective receiving k.1 ha.1 k.3.1 (ap (λ fs. get_or fs 1 []) k.5) in
    let x2 = decimal_injective count k.2 ha.2 k.3.2 (ap (λ fs. get_or fs 2 []) k.5) in
    (λ i. Written (Aborted (x0 i) (x1 i) (x2 i))) ∙ k.4
fields_same (Written (Failed number code)) other ha hb e =
    let k = failed_only other (drop 1 (entry_fields (Written (Failed number code)))) hb e in
    let x0 = decimal_injective number k.0 ha.0 k.2.0 (ap (λ fs. get_or fs 0 []) k.4) in
    let x1 = hex_same code k.1 ha.1 k.2.1 (ap (λ fs. get_or fs 1 []) k.4) in
    (λ i. Written (Failed (x0 i) (x1 i))) ∙ k.3

pub one_spelling : EachHasOneLine
one_spelling a b ha hb e = fields_same a b ha hb (sym (entry_parts (entry_text a) a ha refl) ∙ entry_parts (entry_text a) b hb e)
