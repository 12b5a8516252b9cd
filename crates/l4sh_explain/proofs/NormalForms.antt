-- The rules of a call are its normal form.
use Rattle.std.proofs.Common.{◌≡◌, ℕ, ◌+◌, ◌*◌, ◌%◌, Bool, true, false, not, ◌&&◌, ◌||◌, List, [], ◌∷◌, Option, Some, None, IfSome, IsTrue, length, nat_le, nat_lt, refl, sym, ◌∙◌, arith, find}
use Rattle.std.specs.Prelude.{◌==◌, ◌↔◌, is_some, is_none, unwrap_or}
use Rattle.std.proofs.lemmas.Bool.{le-leb}
use Rattle.std.proofs.lemmas.Bool.Decides.{nat_tests}
use Rattle.ipc_items.specs.declared.buffer_list.Substring.{Substring}
use Rattle.ipc_words.specs.MsgTag.{untyped_of, typed_of, propagates, redirects, crosses, has_failed}
use Rattle.ipc_history.specs.CallParts.{CallParts, is_normal, are_buffers}
use Rattle.ipc_history.proofs.CallLemmas.{are_buffers_passes}
use Rattle.ipc_lines.specs.Reading.{IsBufferList}
use Rattle.l4sh_explain.specs.declared.rules.CallRule.{CallRule}
use Rattle.l4sh_explain.specs.declared.rules.CallRule.TheVariants as rule
use Rattle.l4sh_explain.specs.Rules.{IsWellFormed, shape_of, breaks, broken_rule}

none_found : {X : Type 0} (p : X → Bool) (x : X) (xs : List X) → find p (x ∷ xs) ≡ None → (p x ≡ false) × (find p xs ≡ None)
none_found p x xs e = go (p x) refl
  where
    go : (b : Bool) → p x ≡ b → (p x ≡ false) × (find p xs ≡ None)
    go true at = let found : find p (x ∷ xs) ≡ Some x = rw at refl in absurd (cc (e, found))
    go false at = let found : find p (x ∷ xs) ≡ find p xs = rw at refl in (at, sym found ∙ e)

find_none : {X : Type 0} (p : X → Bool) (x : X) (xs : List X) → p x ≡ false → find p xs ≡ None → find p (x ∷ xs) ≡ None
find_none p x xs a b = rw a b

both : (a b : Bool) → a ≡ true → b ≡ true → (a && b) ≡ true
both a b p q = grind arith

split : (a b : Bool) → (a && b) ≡ true → (a ≡ true) × (b ≡ true)
split true true e = (refl, refl)
split true false e = absurd (cc e)
split false b e = absurd (cc e)

none_is : (o : Option (List (List Substring))) → is_none o ≡ not (is_some o)
none_is None = refl
none_is (Some x) = refl

buffers_pass : (o : Option (List (List Substring))) → IfSome o IsBufferList → are_buffers (unwrap_or o []) ≡ true
buffers_pass None h = refl
buffers_pass (Some list) h = are_buffers_passes list h.0

-- the rules of the tag
tag_from : (u t w n : ℕ) (r x e : Bool) → (r || x || e) ≡ false → nat_lt 63 (u + t) ≡ false → not (u == w) ≡ false → not (t == 2 * n) ≡ false
    → ((u == w) && (t == 2 * n) && nat_le (w + 2 * n) 63 && not r && not x && not e) ≡ true
tag_from u t w n r x e flags fit words strings = grind (arith, nat_tests)

tag_into : (u t w n : ℕ) (r x e : Bool) → ((u == w) && (t == 2 * n) && nat_le (w + 2 * n) 63 && not r && not x && not e) ≡ true
    → ((r || x || e) ≡ false) × (nat_lt 63 (u + t) ≡ false) × (not (t % 2 == 0) ≡ false) × (not (u == w) ≡ false) × (not (t == 2 * n) ≡ false)
tag_into u t w n r x e h = (grind (arith, nat_tests), grind (arith, nat_tests), grind (arith, nat_tests), grind (arith, nat_tests), grind (arith, nat_tests))

-- that of the originator
originator_from : (p : Bool) (o : ℕ) → (not p && not (o == 0)) ≡ false → (p || (o == 0)) ≡ true
originator_from p o h = grind (arith, nat_tests)

originator_into : (p : Bool) (o : ℕ) → (p || (o == 0)) ≡ true → (not p && not (o == 0)) ≡ false
originator_into p o h = grind (arith, nat_tests)

-- those of a call without a send phase
send_from : (to tag send : ℕ) → ((to == 0) && not (send == 0)) ≡ false → ((to == 0) && not (tag == 0)) ≡ false → (not (to == 0) || ((tag == 0) && (send == 0))) ≡ true
send_from to tag send a b = grind (arith, nat_tests)

send_into : (to tag send : ℕ) → (not (to == 0) || ((tag == 0) && (send == 0))) ≡ true → (((to == 0) && not (send == 0)) ≡ false) × (((to == 0) && not (tag == 0)) ≡ false)
send_into to tag send h = (grind (arith, nat_tests), grind (arith, nat_tests))

-- those of a call without a receive phase
receive_from : (from receive : ℕ) (none some : Bool) → none ≡ not some → ((from == 0) && not (receive == 0)) ≡ false → ((from == 0) && some) ≡ false
    → (not (from == 0) || ((receive == 0) && none)) ≡ true
receive_from from receive none some e a b = grind (arith, nat_tests)

receive_into : (from receive : ℕ) (none some : Bool) → none ≡ not some → (not (from == 0) || ((receive == 0) && none)) ≡ true
    → (((from == 0) && not (receive == 0)) ≡ false) × (((from == 0) && some) ≡ false)
receive_into from receive none some e h = (grind (arith, nat_tests), grind (arith, nat_tests))

module _ (thread : ℕ) (call : CallParts) (h : IsWellFormed thread call) where
  abbrev p : CallRule → Bool
  p which = breaks (shape_of call) which

  pub normal_from : broken_rule (shape_of call) ≡ None → IsTrue (is_normal call)
  unfolding is_normal
  normal_from e =
      let a = none_found p rule.NoReceivePeriod (rule.NoSendPeriod ∷ rule.EmptyTag ∷ rule.ClearFlags ∷ rule.WordsFit ∷ rule.EvenTyped ∷ rule.NoOriginator ∷ rule.WordsCounted ∷ rule.StringsCounted ∷ rule.NoBuffers ∷ []) e in
      let b = none_found p rule.NoSendPeriod (rule.EmptyTag ∷ rule.ClearFlags ∷ rule.WordsFit ∷ rule.EvenTyped ∷ rule.NoOriginator ∷ rule.WordsCounted ∷ rule.StringsCounted ∷ rule.NoBuffers ∷ []) a.1 in
      let d = none_found p rule.EmptyTag (rule.ClearFlags ∷ rule.WordsFit ∷ rule.EvenTyped ∷ rule.NoOriginator ∷ rule.WordsCounted ∷ rule.StringsCounted ∷ rule.NoBuffers ∷ []) b.1 in
      let f = none_found p rule.ClearFlags (rule.WordsFit ∷ rule.EvenTyped ∷ rule.NoOriginator ∷ rule.WordsCounted ∷ rule.StringsCounted ∷ rule.NoBuffers ∷ []) d.1 in
      let w = none_found p rule.WordsFit (rule.EvenTyped ∷ rule.NoOriginator ∷ rule.WordsCounted ∷ rule.StringsCounted ∷ rule.NoBuffers ∷ []) f.1 in
      let t = none_found p rule.EvenTyped (rule.NoOriginator ∷ rule.WordsCounted ∷ rule.StringsCounted ∷ rule.NoBuffers ∷ []) w.1 in
      let o = none_found p rule.NoOriginator (rule.WordsCounted ∷ rule.StringsCounted ∷ rule.NoBuffers ∷ []) t.1 in
      let c = none_found p rule.WordsCounted (rule.StringsCounted ∷ rule.NoBuffers ∷ []) o.1 in
      let s = none_found p rule.StringsCounted (rule.NoBuffers ∷ []) c.1 in
      let u = none_found p rule.NoBuffers [] s.1 in
      let tag = tag_from (untyped_of call.tag) (typed_of call.tag) (length call.words) (length call.strings) (redirects call.tag) (crosses call.tag) (has_failed call.tag) f.0 w.0 c.0 s.0 in
      let originator = originator_from (propagates call.tag) call.originator o.0 in
      let send = send_from call.to call.tag call.send_period b.0 d.0 in
      let receive = receive_from call.from call.receive_period (is_none call.buffers) (is_some call.buffers) (none_is call.buffers) a.0 u.0 in
      both _ _ (both _ _ (both _ _ (both _ _ tag originator) send) (both _ _ receive (buffers_pass call.buffers h.buffers))) (le-leb _ _ h.strings.0.1)

pub normal_into : (call : CallParts) → IsTrue (is_normal call) → broken_rule (shape_of call) ≡ None
unfolding is_normal
normal_into call e =
    let size = split _ _ e in
    let receive = split _ _ size.0 in
    let send = split _ _ receive.0 in
    let tag = split _ _ send.0 in
    let t = tag_into (untyped_of call.tag) (typed_of call.tag) (length call.words) (length call.strings) (redirects call.tag) (crosses call.tag) (has_failed call.tag) tag.0 in
    let o = originator_into (propagates call.tag) call.originator tag.1 in
    let s = send_into call.to call.tag call.send_period send.1 in
    let r = receive_into call.from call.receive_period (is_none call.buffers) (is_some call.buffers) (none_is call.buffers) (split _ _ receive.1).0 in
    let p : CallRule → Bool = λ which. breaks (shape_of call) which in
    let from9 = find_none p rule.NoBuffers ([]) r.1 refl in
    let from8 = find_none p rule.StringsCounted (rule.NoBuffers ∷ []) t.4 from9 in
    let from7 = find_none p rule.WordsCounted (rule.StringsCounted ∷ rule.NoBuffers ∷ []) t.3 from8 in
    let from6 = find_none p rule.NoOriginator (rule.WordsCounted ∷ rule.StringsCounted ∷ rule.NoBuffers ∷ []) o from7 in
    let from5 = find_none p rule.EvenTyped (rule.NoOriginator ∷ rule.WordsCounted ∷ rule.StringsCounted ∷ rule.NoBuffers ∷ []) t.2 from6 in
    let from4 = find_none p rule.WordsFit (rule.EvenTyped ∷ rule.NoOriginator ∷ rule.WordsCounted ∷ rule.StringsCounted ∷ rule.NoBuffers ∷ []) t.1 from5 in
    let from3 = find_none p rule.ClearFlags (rule.WordsFit ∷ rule.EvenTyped ∷ rule.NoOriginator ∷ rule.WordsCounted ∷ rule.StringsCounted ∷ rule.NoBuffers ∷ []) t.0 from4 in
    let from2 = find_none p rule.EmptyTag (rule.ClearFlags ∷ rule.WordsFit ∷ rule.EvenTyped ∷ rule.NoOriginator ∷ rule.WordsCounted ∷ rule.StringsCounted ∷ rule.NoBuffers ∷ []) s.1 from3 in
    let from1 = find_none p rule.NoSendPeriod (rule.EmptyTag ∷ rule.ClearFlags ∷ rule.WordsFit ∷ rule.EvenTyped ∷ rule.NoOriginator ∷ rule.WordsCounted ∷ rule.StringsCounted ∷ rule.NoBuffers ∷ []) s.0 from2 in
    find_none p rule.NoReceivePeriod (rule.NoSendPeriod ∷ rule.EmptyTag ∷ rule.ClearFlags ∷ rule.WordsFit ∷ rule.EvenTyped ∷ rule.NoOriginator ∷ rule.WordsCounted ∷ rule.StringsCounted ∷ rule.NoBuffers ∷ []) r.0 from1

pub rules_are_normal : (thread : ℕ) (call : CallParts) → IsWellFormed thread call → (broken_rule (shape_of call) ≡ None) ↔ IsTrue (is_normal call)
rules_are_normal thread call h = (normal_from thread call h, normal_into call)
