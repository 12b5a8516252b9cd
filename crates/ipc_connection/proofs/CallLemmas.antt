-- What is answered for an IPC frame, fault by fault.
use Rattle.std.proofs.Common.{◌≡◌, ◌≢◌, inl, inr, ℕ, ◌+◌, ◌*◌, ◌≤◌, drop, arith, length-drop, ◌&&◌, ◌||◌, Bool, true, false, List, [], length, nat_lt, Result, Ok, Err, IsOk, IfErr, refl, sym, ap, ◌∙◌}
use Rattle.std.proofs.lemmas.Bool.{cases_Bool}
use Rattle.ipc_items.specs.declared.buffer_list.Substring.{Substring}
use Rattle.ipc_items.specs.declared.item_fault.ItemFault.{ItemFault}
use Rattle.ipc_items.specs.declared.item_fault.ItemFault.TheVariants as item
use Rattle.ipc_history.specs.CallParts.{CallParts}
use Rattle.ipc_words.specs.MsgTag.{untyped_of}
use Rattle.ipc_frame.specs.Parts.{IpcParts, words_of}
use Rattle.ipc_frame.specs.declared.fault.FrameFault.TheVariants.{TimePoint, NoMemory}
use Rattle.ipc_connection.specs.CallOf.{of_items, sends, has_time_point, strings_in, buffers_in, both, lists_in, of_lists, normal_call, call_of, asks_memory}
use Rattle.ipc_connection.specs.Reads.{Reads}
use Rattle.ipc_connection.proofs.ItemLemmas.{strings_never, few_strings}

strings_in_never : (ipc : IpcParts) → strings_in ipc ≢ Err item.NoMemory
strings_in_never ipc = elim (cases_Bool (sends ipc)) [
  | inl there ↦ rw there (strings_never _ ipc.payload)
  | inr absent ↦ rw absent (λ e. cc)
]

or_left : (a b : Bool) → a ≡ true → (a || b) ≡ true
or_left a b e = rw e refl

or_right : (a b : Bool) → b ≡ true → (a || b) ≡ true
or_right true b e = refl
or_right false b e = e

asked : (a : Bool) → (a ≡ false → false ≡ true) → a ≡ true
asked true h = refl
asked false h = let no : false ≡ true = h refl in absurd (cc)

-- an answer that is a fault
abbrev bad : (X F : Type 0) → F → Result X F
bad X F fault = Err fault

-- what is known where a reading was answered by a fault: it is that of the reading, or memory was
-- asked for
pub record IsBad (A X : Type 0) (S : Result A ItemFault) (asks : Bool) (fault : ItemFault) : Type 0 where
  pub fault_is : IfErr S (λ f. bad X ItemFault fault ≡ Err f)
  pub memory : IsOk S → fault ≡ item.NoMemory
  pub lean : IsOk S → asks ≡ false → false ≡ true

module _ {A B : Type 0} (X Y : Type 0) (S : Result A ItemFault) (L : Result B ItemFault) (a b : Bool) where
  pub lists_read : (x : A) (y : B) → S ≡ Ok x → L ≡ Ok y → Reads item.NoMemory (both S L) (a || b) (Ok (x, y))
  lists_read x y e1 e2 = rw (e1, e2) (inl refl)

  pub second_bad : (x : A) (fault : ItemFault) → S ≡ Ok x → IsBad B Y L b fault → Reads item.NoMemory (both S L) (a || b) (Err fault)
  second_bad x fault e1 h = rw e1 (go L h)
    where
      go : (o : Result B ItemFault) → IsBad B Y o b fault → Reads item.NoMemory (both (Ok x) o) (a || b) (Err fault)
      go (Ok y) h = inr (ap Err (h.memory refl), or_right a b (asked b (h.lean refl)))
      go (Err f) h = let e : bad Y ItemFault fault ≡ Err f = h.fault_is in let same : fault ≡ f = cc in ap Err same

  pub first_bad : (y : B) (fault : ItemFault) → L ≡ Ok y → IsBad A X S a fault → Reads item.NoMemory (both S L) (a || b) (Err fault)
  first_bad y fault e2 h = rw e2 (go S h)
    where
      go : (o : Result A ItemFault) → IsBad A X o a fault → Reads item.NoMemory (both o (Ok y)) (a || b) (Err fault)
      go (Ok x) h = inr (ap Err (h.memory refl), or_left a b (asked a (h.lean refl)))
      go (Err f) h = let e : bad X ItemFault fault ≡ Err f = h.fault_is in let same : fault ≡ f = cc in ap Err same

  pub both_bad : S ≢ Err item.NoMemory → (first second result : ItemFault) → IsBad A X S a first → IsBad B Y L b second → (first ≡ item.NoMemory → result ≡ second) → (first ≢ item.NoMemory → result ≡ first) → Reads item.NoMemory (both S L) (a || b) (Err result)
  both_bad never first second result h k lack other = go S refl h
    where
      go : (o : Result A ItemFault) → S ≡ o → IsBad A X o a first → Reads item.NoMemory (both S L) (a || b) (Err result)
      go (Ok x) e h = let same : result ≡ second = lack (h.memory refl) in rw same (second_bad x second e k)
      go (Err f) e h =
          let is : bad X ItemFault first ≡ Err f = h.fault_is in
          let same : first ≡ f = cc in
          let kept : result ≡ first = other (λ none. never (e ∙ ap Err (sym same ∙ none))) in
          rw e (ap Err (kept ∙ same))

pub lists_never : (ipc : IpcParts) → strings_in ipc ≢ Err item.NoMemory
lists_never ipc = strings_in_never ipc

module _ (ipc : IpcParts) (asks : Bool) where
  pub time_point : has_time_point ipc ≡ true → Reads NoMemory (call_of ipc) asks (Err TimePoint)
  unfolding call_of
  time_point h = rw h refl

  module _ (timely : has_time_point ipc ≡ false) where
    lists_told : call_of ipc ≡ of_lists ipc (lists_in ipc)
    unfolding call_of
    lists_told = rw timely refl

    pub lists_are : (lists : List (List ℕ) × List (List Substring)) → Reads item.NoMemory (lists_in ipc) asks (Ok lists) → lists_in ipc ≡ Ok lists
    lists_are lists = go (lists_in ipc)
      where
        go : (o : Result (List (List ℕ) × List (List Substring)) ItemFault) → Reads item.NoMemory o asks (Ok lists) → o ≡ Ok lists
        go (Ok other) (inl e) = sym e
        go (Ok other) (inr e) = let no = e.0 in absurd (cc)
        go (Err fault) e = absurd (cc)

    pub call_made : (strings : List (List ℕ)) (buffers : List (List Substring)) (call : CallParts) → Reads item.NoMemory (lists_in ipc) asks (Ok (strings, buffers)) → call ≡ normal_call ipc strings buffers → Reads NoMemory (call_of ipc) asks (Ok call)
    call_made strings buffers call h e = let is = lists_are (strings, buffers) h in rw (lists_told, is) (inl (ap Ok e))

    pub call_lacks : (strings : List (List ℕ)) (buffers : List (List Substring)) → Reads item.NoMemory (lists_in ipc) asks (Ok (strings, buffers)) → asks ≡ true → Reads NoMemory (call_of ipc) asks (Err NoMemory)
    call_lacks strings buffers h e = let is = lists_are (strings, buffers) h in rw (lists_told, is) (inr (refl, e))

    pub call_bad : (fault : ItemFault) → Reads item.NoMemory (lists_in ipc) asks (Err fault) → Reads NoMemory (call_of ipc) asks (Err (of_items fault))
    call_bad fault h = rw lists_told (go (lists_in ipc) h)
      where
        go : (o : Result (List (List ℕ) × List (List Substring)) ItemFault) → Reads item.NoMemory o asks (Err fault) → Reads NoMemory (of_lists ipc o) asks (Err (of_items fault))
        go (Ok lists) (inl e) = absurd (cc)
        go (Ok lists) (inr e) = let lack = e.0 in let same : fault ≡ item.NoMemory = cc in inr (ap (λ f. Err (of_items f)) same, e.1)
        go (Err f) e = let same : fault ≡ f = cc in ap (λ g. Err (of_items g)) same

-- the words that a call needs
both_true : (a b : Bool) → (a && b) ≡ false → a ≡ true → b ≡ true → false ≡ true
both_true true true e h k = sym e
both_true true false e h k = k
both_true false b e h k = h

both_ok : {A B F : Type 0} (S : Result A F) (L : Result B F) (x : A) (y : B) → both S L ≡ Ok (x, y) → (S ≡ Ok x) × (L ≡ Ok y)
both_ok {A} {B} {F} (Ok a) (Ok b) x y e =
    let same : (a, b) ≡ (x, y) = cc in
    (ap (λ (p : A × B). Ok p.0) same, ap (λ (p : A × B). Ok p.1) same)
both_ok (Ok a) (Err f) x y e = absurd (cc)
both_ok (Err f) L x y e = absurd (cc)

module _ (ipc : IpcParts) (asks : Bool) (timely : has_time_point ipc ≡ false) (strings : List (List ℕ)) (buffers : List (List Substring)) (h : Reads item.NoMemory (lists_in ipc) asks (Ok (strings, buffers))) where
  strings_are : strings_in ipc ≡ Ok strings
  strings_are = (both_ok (strings_in ipc) (buffers_in ipc) strings buffers (lists_are ipc asks timely (strings, buffers) h)).0

  pub unsent : sends ipc ≡ false → strings ≡ []
  unsent none = let e = rw none at strings_are in cc

  pub few_sent : length ipc.words ≡ words_of ipc.tag → words_of ipc.tag ≤ 63 → untyped_of ipc.tag + 2 * length strings ≤ 63
  few_sent count few = elim (cases_Bool (sends ipc)) [
    | inl there ↦
        let e = rw there at strings_are in
        omega (arith, few_strings (drop (untyped_of ipc.tag) ipc.words) ipc.payload strings e, length-drop (untyped_of ipc.tag) ipc.words, count, few)
    | inr none ↦ let e = unsent none in rw e (omega (arith, few))
  ]

pub lacks_words : (ipc : IpcParts) → (sends ipc && nat_lt 0 (length ipc.words) ≡ false → false ≡ true) → asks_memory ipc ≡ true
lacks_words ipc h = or_left _ _ (asked _ h)

-- a call that is read has no time point, and its strings and buffer strings are read
both_read : {A B F : Type 0} (first : Result A F) (second : Result B F) → IsOk (both first second) → IsOk first × IsOk second
both_read (Err fault) second h = absurd (cc)
both_read (Ok a) (Err fault) h = absurd (cc)
both_read (Ok a) (Ok b) h = (refl, refl)

lists_read_of : (ipc : IpcParts) (lists : Result (List (List ℕ) × List (List Substring)) ItemFault) → IsOk (of_lists ipc lists) → IsOk lists
lists_read_of ipc (Err fault) h = absurd (cc)
lists_read_of ipc (Ok lists) h = refl

pub lists_there : (ipc : IpcParts) → has_time_point ipc ≡ false → IsOk (call_of ipc) → IsOk (strings_in ipc) × IsOk (buffers_in ipc)
unfolding call_of
lists_there ipc timely h = both_read (strings_in ipc) (buffers_in ipc) (lists_read_of ipc (lists_in ipc) (rw timely at h))

pub no_time_point : (ipc : IpcParts) → has_time_point ipc ≡ true → IsOk (call_of ipc) → ⊥
unfolding call_of
no_time_point ipc timed h = let failed = rw timed at h in absurd (cc)

pub is_timely : (test : Bool) → (test ≡ true → true ≡ false) → test ≡ false
is_timely true h = h refl
is_timely false h = refl

pub reads_fault : {A F : Type 0} (lack : F) (asks : Bool) (r result : Result A F) → Reads lack r asks result → IfErr r (λ fault. result ≡ Err fault)
reads_fault lack asks (Ok value) result h = tt
reads_fault lack asks (Err fault) result h = h

abbrev frame_made : ℕ → ℕ → ℕ → ℕ → ℕ → ℕ → List ℕ → List ℕ → List ℕ → IpcParts
frame_made to from timeouts originator tag acceptor words buffer_words payload = record { to = to; from = from; timeouts = timeouts; originator = originator; tag = tag; acceptor = acceptor; words = words; buffer_words = buffer_words; payload = payload }

pub same_frame : (ipc : IpcParts) (to from timeouts originator tag acceptor : ℕ) (words buffer_words payload : List ℕ) → to ≡ ipc.to → from ≡ ipc.from → timeouts ≡ ipc.timeouts → originator ≡ ipc.originator → tag ≡ ipc.tag → acceptor ≡ ipc.acceptor → words ≡ ipc.words → buffer_words ≡ ipc.buffer_words → payload ≡ ipc.payload → frame_made to from timeouts originator tag acceptor words buffer_words payload ≡ ipc
same_frame ipc to from timeouts originator tag acceptor words buffer_words payload e1 e2 e3 e4 e5 e6 e7 e8 e9 = rw (e1, e2, e3, e4, e5, e6, e7, e8, e9) refl
