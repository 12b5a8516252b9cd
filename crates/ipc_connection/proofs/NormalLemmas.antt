-- A call that is made of an IPC frame is in normal form.
use Rattle.std.proofs.Common.{◌≡◌, ℕ, ◌+◌, ◌*◌, ◌/◌, ◌%◌, ◌^◌, ◌<◌, ◌≤◌, ◌==◌, ◌&&◌, ◌||◌, not, Bool, true, false, List, [], length, take, Option, Some, None, is_some, is_none, unwrap_or, nat_le, if◌then◌else◌, refl, arith}
use Rattle.std.proofs.lemmas.Bool.{le-leb, eq-eqb}
use Rattle.std.proofs.lemmas.List.{length-take-le}
use Rattle.ipc_words.specs.MsgTag.{untyped_of, typed_of, propagates, redirects, crosses, has_failed}
use Rattle.ipc_words.specs.ThreadId.{nilthread}
use Rattle.ipc_words.specs.Timeouts.{receive_period, send_period}
use Rattle.ipc_items.specs.Strings.{AreStrings}
use Rattle.ipc_items.specs.Buffers.{AreBuffers}
use Rattle.ipc_items.specs.declared.buffer_list.Substring.{Substring}
use Rattle.ipc_history.specs.CallParts.{CallParts, is_normal, are_buffers}
use Rattle.ipc_words.specs.TagFields.{received_tag}
use Rattle.ipc_history.proofs.CallLemmas.{are_buffers_passes}
use Rattle.ipc_frame.specs.Parts.{IpcParts}
use Rattle.ipc_connection.specs.CallOf.{sends, receives, accepts_strings, period_if, normal_tag, normal_originator, normal_words, normal_call}

-- the fields of the tag
module _ (tag n : ℕ) (fits : 2 * n < 64) where
  tag_untyped : (p : Bool) → untyped_of (received_tag tag (2 * n) p) ≡ untyped_of tag
  tag_untyped true = omega arith
  tag_untyped false = omega arith

  tag_typed : (p : Bool) → typed_of (received_tag tag (2 * n) p) ≡ 2 * n
  tag_typed true = omega arith
  tag_typed false = omega arith

  tag_propagates : (p : Bool) → propagates (received_tag tag (2 * n) p) ≡ p
  tag_propagates true = let e : received_tag tag (2 * n) true / 2 ^ 12 % 2 ≡ 1 = omega arith in rw e refl
  tag_propagates false = let e : received_tag tag (2 * n) false / 2 ^ 12 % 2 ≡ 0 = omega arith in rw e refl

  tag_redirects : (p : Bool) → redirects (received_tag tag (2 * n) p) ≡ false
  tag_redirects true = let e : received_tag tag (2 * n) true / 2 ^ 13 % 2 ≡ 0 = omega arith in rw e refl
  tag_redirects false = let e : received_tag tag (2 * n) false / 2 ^ 13 % 2 ≡ 0 = omega arith in rw e refl

  tag_crosses : (p : Bool) → crosses (received_tag tag (2 * n) p) ≡ false
  tag_crosses true = let e : received_tag tag (2 * n) true / 2 ^ 14 % 2 ≡ 0 = omega arith in rw e refl
  tag_crosses false = let e : received_tag tag (2 * n) false / 2 ^ 14 % 2 ≡ 0 = omega arith in rw e refl

  tag_failed : (p : Bool) → has_failed (received_tag tag (2 * n) p) ≡ false
  tag_failed true = let e : received_tag tag (2 * n) true / 2 ^ 15 % 2 ≡ 0 = omega arith in rw e refl
  tag_failed false = let e : received_tag tag (2 * n) false / 2 ^ 15 % 2 ≡ 0 = omega arith in rw e refl

six : (a b c d e f : Bool) → a ≡ true → b ≡ true → c ≡ true → d ≡ false → e ≡ false → f ≡ false → (a && b && c && not d && not e && not f) ≡ true
six a b c d e f h1 h2 h3 h4 h5 h6 = rw (h1, h2, h3, h4, h5, h6) refl

or_true : (a : Bool) → (a || true) ≡ true
or_true true = refl
or_true false = refl

-- the tag counts what is there
tag_normal : (s p : Bool) (tag : ℕ) (words : List ℕ) (strings : List (List ℕ)) → untyped_of tag ≤ length words → untyped_of tag + 2 * length strings ≤ 63 → (s ≡ false → strings ≡ []) →
    ((untyped_of (if s then received_tag tag (2 * length strings) p else 0) == length (if s then take (untyped_of tag) words else [])) && (typed_of (if s then received_tag tag (2 * length strings) p else 0) == 2 * length strings) && nat_le (length (if s then take (untyped_of tag) words else []) + 2 * length strings) 63 && not (redirects (if s then received_tag tag (2 * length strings) p else 0)) && not (crosses (if s then received_tag tag (2 * length strings) p else 0)) && not (has_failed (if s then received_tag tag (2 * length strings) p else 0))) ≡ true
tag_normal true p tag words strings there few unsent =
    let n = length strings in
    let taken = length-take-le (untyped_of tag) words there in
    let fits : 2 * n < 64 = omega arith in
    six _ _ _ _ _ _
    (eq-eqb _ _ (omega (arith, tag_untyped tag n fits p, taken)))
    (eq-eqb _ _ (tag_typed tag n fits p))
    (le-leb _ _ (omega (arith, taken)))
    (tag_redirects tag n fits p) (tag_crosses tag n fits p) (tag_failed tag n fits p)
tag_normal false p tag words strings there few unsent = rw (unsent refl) refl

originator_normal : (s p : Bool) (tag n originator : ℕ) → 2 * n < 64 → (propagates (if s then received_tag tag (2 * n) p else 0) || ((if s && p then originator else nilthread) == nilthread)) ≡ true
originator_normal true true tag n originator fits = rw (tag_propagates tag n fits true) refl
originator_normal true false tag n originator fits = or_true _
originator_normal false p tag n originator fits = refl

send_normal : (z : Bool) (tag period : ℕ) → (not z || (((if not z then tag else 0) == 0) && ((if not z then period else 0) == 0))) ≡ true
send_normal true tag period = refl
send_normal false tag period = refl

receive_normal : (z a : Bool) (period : ℕ) (buffers : List (List Substring)) → (not z || (((if not z then period else 0) == 0) && is_none (if not z && a then Some buffers else None))) ≡ true
receive_normal true a period buffers = refl
receive_normal false a period buffers = refl

buffers_normal : (a : Bool) (buffers : List (List Substring)) → AreBuffers buffers → are_buffers [] ≡ true → are_buffers (unwrap_or (if a then Some buffers else None) []) ≡ true
buffers_normal true buffers h none = are_buffers_passes buffers h
buffers_normal false buffers h none = none

all_six : (a b c d e f : Bool) → a ≡ true → b ≡ true → c ≡ true → d ≡ true → e ≡ true → f ≡ true → (a && b && c && (d && e) && f) ≡ true
all_six a b c d e f h1 h2 h3 h4 h5 h6 = rw (h1, h2, h3, h4, h5, h6) refl

pub is_normal_call : (ipc : IpcParts) (strings : List (List ℕ)) (buffers : List (List Substring)) → untyped_of ipc.tag ≤ length ipc.words → untyped_of ipc.tag + 2 * length strings ≤ 63 → (sends ipc ≡ false → strings ≡ []) → AreStrings strings → AreBuffers buffers → is_normal (normal_call ipc strings buffers) ≡ true
unfolding is_normal normal_call
is_normal_call ipc strings buffers there few unsent are_strings are =
    let fits : 2 * length strings < 64 = omega arith in
    all_six _ _ _ _ _ _
    (tag_normal (sends ipc) (propagates ipc.tag) ipc.tag ipc.words strings there few unsent)
    (originator_normal (sends ipc) (propagates ipc.tag) ipc.tag (length strings) ipc.originator fits)
    (send_normal (ipc.to == nilthread) _ _)
    (receive_normal (ipc.from == nilthread) (ipc.acceptor % 2 == 1) _ buffers)
    (buffers_normal (accepts_strings ipc) buffers are refl)
    (le-leb _ _ are_strings.1)

-- the parts of a call, one by one
accepted_buffers : (a : Bool) (buffers : Option (List (List Substring))) → is_some buffers ≡ a → buffers ≡ (if a then Some (unwrap_or buffers []) else None)
accepted_buffers true None h = absurd (cc)
accepted_buffers true (Some buffers) h = refl
accepted_buffers false None h = refl
accepted_buffers false (Some buffers) h = absurd (cc)

abbrev made : ℕ → ℕ → ℕ → ℕ → ℕ → ℕ → List ℕ → List (List ℕ) → Option (List (List Substring)) → CallParts
made to from send receive tag originator words strings buffers = record { to = to; from = from; send_period = send; receive_period = receive; tag = tag; originator = originator; words = words; strings = strings; buffers = buffers }

same_parts : (to from s1 s2 r1 r2 t1 t2 o1 o2 : ℕ) (w1 w2 : List ℕ) (strings : List (List ℕ)) (b1 b2 : Option (List (List Substring))) → s1 ≡ s2 → r1 ≡ r2 → t1 ≡ t2 → o1 ≡ o2 → w1 ≡ w2 → b1 ≡ b2 → made to from s1 r1 t1 o1 w1 strings b1 ≡ made to from s2 r2 t2 o2 w2 strings b2
same_parts to from s1 s2 r1 r2 t1 t2 o1 o2 w1 w2 strings b1 b2 e1 e2 e3 e4 e5 e6 = cc

pub parts_are : (ipc : IpcParts) (send receive tag originator : ℕ) (words : List ℕ) (strings : List (List ℕ)) (buffers : Option (List (List Substring))) → send ≡ period_if (sends ipc) (send_period ipc.timeouts) → receive ≡ period_if (receives ipc) (receive_period ipc.timeouts) → tag ≡ normal_tag ipc (length strings) → originator ≡ normal_originator ipc → words ≡ normal_words ipc → is_some buffers ≡ accepts_strings ipc →
    made ipc.to ipc.from send receive tag originator words strings buffers ≡ normal_call ipc strings (unwrap_or buffers [])
unfolding normal_call
parts_are ipc send receive tag originator words strings buffers e1 e2 e3 e4 e5 e6 =
    let e7 = accepted_buffers (accepts_strings ipc) buffers e6 in
    same_parts _ _ _ _ _ _ _ _ _ _ _ _ strings _ _ e1 e2 e3 e4 e5 e7
